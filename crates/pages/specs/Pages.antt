-- What goes into a page, and what assembling and reading one answer.
use Rattle.std.specs.Prelude.{◌≡◌, ℕ, ◌≤◌, true, List, ◌++◌, length, drop, Some, None, Option}
use Rattle.bits.specs.Rows.{Fit}
use Rattle.level_coder.specs.Coding.{Coding}
use Rattle.body_coder.specs.Body.{Body, whole}
use Rattle.pages.specs.declared.layout.Layout.{Layout}
use Rattle.pages.specs.Layout.{level_size_of, page_bytes}
use Rattle.pages.specs.Widths.{bit_length}

-- levels that can stand in a list: at most 1,024, each of the maximum's bit width
pub record ListFits (most : ℕ) (ls : List ℕ) : Type 0 where
  pub few : length ls ≤ 1024
  pub narrow : most ≤ 15
  pub fit : Fit (bit_length most) ls

-- what measuring levels for a list answers: how many bytes they take; absent exactly if they cannot stand in it
abbrev pub Measured : Coding → ℕ → ℕ → List ℕ → Option ℕ → Type 0
Measured c version most ls None = ListFits most ls → ⊥
Measured c version most ls (Some k) = ListFits most ls × (k ≡ level_size_of c version most (length ls)) × (k ≤ 518)

-- levels and plain bytes that can make a page
pub record PageFits (b : Body) (l : Layout) (reps defs plain : List ℕ) : Type 0 where
  pub repetition : ListFits l.max_rep_level reps
  pub definition : ListFits l.max_def_level defs
  pub plain_bytes : whole b.joins l.width (length plain) ≡ true

-- what assembling a page answers, and what `out` then holds: absent, and nothing changed, exactly if levels and plain
-- bytes make no page or `out` is too short for it
abbrev pub Assembled : Coding → Body → Layout → List ℕ → List ℕ → List ℕ → List ℕ → List ℕ → Option ℕ → Type 0
Assembled c b l reps defs plain out out' None =
    (out' ≡ out) × (PageFits b l reps defs plain → length (page_bytes c b l reps defs plain) ≤ length out → ⊥)
Assembled c b l reps defs plain out out' (Some k) =
    PageFits b l reps defs plain × (k ≡ length (page_bytes c b l reps defs plain)) × (k ≤ length out)
    × (out' ≡ page_bytes c b l reps defs plain ++ drop k out)

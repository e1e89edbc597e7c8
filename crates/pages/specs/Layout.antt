-- A page's bytes, as the format lays a data page down: repetition levels, definition levels, values.
use Rattle.std.specs.Prelude.{◌≡◌, ℕ, ◌+◌, ◌≤◌, Bool, true, false, cond, ◌&&◌, List, [], ◌++◌, length, Some, None, Option, ◌==◌}
use Rattle.kinds.specs.Plain.{four}
use Rattle.level_coder.specs.Coding.{Coding}
use Rattle.body_coder.specs.Body.{Body, whole}
use Rattle.pages.specs.Widths.{bit_length}
use Rattle.pages.specs.declared.layout.Layout.{Layout}

-- in version 1 a list of a coder that asks for it has its length before it, in four little-endian bytes
abbrev pub with_length : Bool → List ℕ → List ℕ
with_length true bs = four (length bs) ++ bs
with_length false bs = bs

-- a list of levels; none where the maximum is 0
abbrev pub level_part : Coding → ℕ → ℕ → List ℕ → List ℕ
level_part c version most ls = cond (most == 0) [] (with_length (version == 1 && c.framed) (c.coded (bit_length most) ls))

-- a page's bytes
abbrev pub page_bytes : Coding → Body → Layout → List ℕ → List ℕ → List ℕ → List ℕ
page_bytes c b l reps defs plain =
    level_part c l.version l.max_rep_level reps
    ++ (level_part c l.version l.max_def_level defs ++ b.coded l.width plain)

-- how long a list of n levels is
abbrev pub level_size_of : Coding → ℕ → ℕ → ℕ → ℕ
level_size_of c version most n = cond (most == 0) 0 (cond (version == 1 && c.framed) 4 0 + c.size n (bit_length most))

-- how long a page of r repetition levels, d definition levels and m plain bytes is
abbrev pub parts_size : Coding → Layout → ℕ → ℕ → ℕ → ℕ
parts_size c l r d m = level_size_of c l.version l.max_rep_level r + (level_size_of c l.version l.max_def_level d + m)

-- how long a page of n levels and m plain bytes is
abbrev pub page_size : Coding → Layout → ℕ → ℕ → ℕ
page_size c l n m = parts_size c l n n m

-- what is coded: at most 1,024 levels of at most 15, and at most 8,191 plain bytes
pub record Small (l : Layout) (n m : ℕ) : Type 0 where
  pub levels : n ≤ 1024
  pub repetition : l.max_rep_level ≤ 15
  pub definition : l.max_def_level ≤ 15
  pub plain : m ≤ 8191

-- what the question for a list's size answers: at most 518; absent exactly if there are more than 1,024 levels, or a
-- maximum above 15
abbrev pub LevelSize : Coding → ℕ → ℕ → ℕ → Option ℕ → Type 0
LevelSize c version most n None = n ≤ 1024 → most ≤ 15 → ⊥
LevelSize c version most n (Some k) = (n ≤ 1024) × (most ≤ 15) × (k ≡ level_size_of c version most n) × (k ≤ 518)

-- what the question for a page's size answers: at most 9,227; absent exactly if the page is not small
abbrev pub PageSize : Coding → Layout → ℕ → ℕ → Option ℕ → Type 0
PageSize c l n m None = Small l n m → ⊥
PageSize c l n m (Some k) = Small l n m × (k ≡ page_size c l n m) × (k ≤ 9227)

-- a page's size is the length of its bytes, whatever its levels and plain bytes are
abbrev pub SizeIsLength : Coding → Body → Layout → Type 0
SizeIsLength c b l = (reps defs plain : List ℕ) → length reps ≡ length defs → whole b.joins l.width (length plain) ≡ true
    → length (page_bytes c b l reps defs plain) ≡ page_size c l (length defs) (length plain)

-- What reading a page's lists answers, for every byte string.
use Rattle.std.specs.Prelude.{◌≡◌, ℕ, ◌+◌, ◌≤◌, cond, List, ◌++◌, length, drop, Some, None, Option, ◌==◌}
use Rattle.level_coder.specs.Coding.{Coding}
use Rattle.pages.specs.declared.layout.Layout.{Layout}
use Rattle.body_coder.specs.Body.{Body}
use Rattle.pages.specs.Layout.{level_part, level_size_of, page_bytes}
use Rattle.pages.specs.Pages.{ListFits, PageFits}

-- how many levels a list up to a maximum has: none where that is 0
abbrev pub list_count : ℕ → ℕ → ℕ
list_count most n = cond (most == 0) 0 n

-- bytes that begin with a list of levels, which are these
pub record ListAt (c : Coding) (version most n : ℕ) (bytes ls : List ℕ) : Type 0 where
  pub count : length ls ≡ list_count most n
  pub fits : ListFits most ls
  pub front : bytes ≡ level_part c version most ls ++ drop (level_size_of c version most n) bytes

-- bytes that begin with no list of levels
abbrev pub NoListAt : Coding → ℕ → ℕ → ℕ → List ℕ → Type 0
NoListAt c version most n bytes = (ls : List ℕ) → ListAt c version most n bytes ls → ⊥

-- the levels that a page begins with: its repetition levels, and its definition levels behind them
pub record LevelsAt (c : Coding) (l : Layout) (n : ℕ) (page rs ds : List ℕ) : Type 0 where
  pub repetition : ListAt c l.version l.max_rep_level n page rs
  pub definition : ListAt c l.version l.max_def_level n (drop (level_size_of c l.version l.max_rep_level n) page) ds

-- how many bytes these take
abbrev pub levels_size : Coding → Layout → ℕ → ℕ
levels_size c l n = level_size_of c l.version l.max_rep_level n + level_size_of c l.version l.max_def_level n

-- a page of n levels, by what went into it; a list whose maximum is 0 is empty
pub record PageHolds (c : Coding) (b : Body) (l : Layout) (n : ℕ) (page reps defs plain : List ℕ) : Type 0 where
  pub few : n ≤ 1024
  pub rep_count : length reps ≡ list_count l.max_rep_level n
  pub def_count : length defs ≡ list_count l.max_def_level n
  pub fits : PageFits b l reps defs plain
  pub same : page ≡ page_bytes c b l reps defs plain

-- lists that have room for what a page holds
pub record Roomy (l : Layout) (n : ℕ) (plain : List ℕ) (ro dn po : List ℕ) : Type 0 where
  pub rep_room : list_count l.max_rep_level n ≤ length ro
  pub def_room : list_count l.max_def_level n ≤ length dn
  pub plain_room : length plain ≤ length po

-- what a page of n levels gave to three lists
pub record PageTaken (c : Coding) (b : Body) (l : Layout) (n : ℕ) (page ro dn po ro' dn' po' : List ℕ) (k : ℕ) : Type 0 where
  pub reps : List ℕ
  pub defs : List ℕ
  pub plain : List ℕ
  pub holds : PageHolds c b l n page reps defs plain
  pub roomy : Roomy l n plain ro dn po
  pub size : k ≡ length plain
  pub rep_after : ro' ≡ reps ++ drop (length reps) ro
  pub def_after : dn' ≡ defs ++ drop (length defs) dn
  pub plain_after : po' ≡ plain ++ drop k po

-- what reading a page of n levels answers, for every byte string, and what the three lists then hold: levels and plain
-- bytes exactly if some make this page and the lists have room, else nothing has changed
abbrev pub PageRead : Coding → Body → Layout → ℕ → List ℕ → List ℕ → List ℕ → List ℕ → List ℕ → List ℕ → List ℕ → Option ℕ → Type 0
PageRead c b l n page ro dn po ro' dn' po' (Some k) = PageTaken c b l n page ro dn po ro' dn' po' k
PageRead c b l n page ro dn po ro' dn' po' None =
    (ro' ≡ ro) × (dn' ≡ dn) × (po' ≡ po)
    × ((reps defs plain : List ℕ) → PageHolds c b l n page reps defs plain → Roomy l n plain ro dn po → ⊥)

-- a page that levels and plain bytes make reads back as these
abbrev pub ReadsBack : Coding → Body → Layout → ℕ → List ℕ → List ℕ → List ℕ → List ℕ → List ℕ → List ℕ → List ℕ → Option ℕ → Type 0
ReadsBack c b l n page ro dn po ro' dn' po' r =
    (reps defs plain : List ℕ) → PageHolds c b l n page reps defs plain → Roomy l n plain ro dn po
    → (r ≡ Some (length plain)) × (ro' ≡ reps ++ drop (length reps) ro) × (dn' ≡ defs ++ drop (length defs) dn)
    × (po' ≡ plain ++ drop (length plain) po)

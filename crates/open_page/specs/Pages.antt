-- Pages that a chunk can hold open, by the limits and the layout of its column.
use Rattle.std.specs.Prelude.{◌≡◌, ◌≤◌, true, length, count_by, nat_eq}
use Rattle.std.specs.List.{AllByRecursion}
use Rattle.kinds.specs.Plain.{sized}
use Rattle.body_coder.specs.Body.{Body}
use Rattle.pages.specs.declared.layout.Layout.{Layout}
use Rattle.ledger.specs.Pages.{Page, plains}

-- maxima and a width that a column may have
pub record Allowed (l : Layout) : Type 0 where
  pub repetition : l.max_rep_level ≤ 15
  pub definition : l.max_def_level ≤ 15
  pub width : l.width ≤ 128

-- a page within its limits: as many levels of both kinds, none above its maximum; a value for each definition level of the
-- maximum, each of right length
pub record WellFormed (l : Layout) (p : Page) : Type 0 where
  pub few : length p.defs ≤ 1024
  pub paired : length p.reps ≡ length p.defs
  pub rep_range : AllByRecursion (λ x. x ≤ l.max_rep_level) p.reps
  pub def_range : AllByRecursion (λ x. x ≤ l.max_def_level) p.defs
  pub counted : length p.values ≡ count_by (nat_eq l.max_def_level) p.defs
  pub sizes : AllByRecursion (λ v. sized l.width v ≡ true) p.values
  pub light : length (plains l.width p.values) ≤ 8191

-- a body coder that takes joined bytes where each value has its own length
abbrev pub Joinable : Body → Layout → Type 0
Joinable b l = l.width ≡ 0 → b.joins ≡ true

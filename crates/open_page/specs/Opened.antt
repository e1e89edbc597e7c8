-- What an open page holds of the levels and values that it was given.
use Rattle.std.specs.Prelude.{◌≡◌, ℕ, ◌+◌, ◌≤◌, true, List, [], length, ℤ, Some, Option}
use Rattle.std.specs.List.{AllByRecursion}
use Rattle.kinds.specs.Plain.{sized}
use Rattle.kinds.specs.Meaning.{Meaning}
use Rattle.figures.specs.Figures.{smallest, largest}
use Rattle.pages.specs.declared.layout.Layout.{Layout}
use Rattle.ledger.specs.Pages.{Page, join, plains}
use Rattle.ledger.specs.Batches.{levels_at}
use Rattle.metrics.specs.Metrics.{kept, Measures}
use Rattle.open_page.specs.Pages.{Allowed, WellFormed}
use Rattle.open_page.specs.declared.page.OpenPage.{OpenPage}

-- the levels and the plain bytes of the page, its counts and its figures
pub record Holds (m : Meaning) (l : Layout) (p : Page) (o : OpenPage) : Type 0 where
  pub reps : o.reps ≡ p.reps
  pub defs : o.defs ≡ p.defs
  pub plain : o.plain ≡ plains l.width p.values
  pub metrics : Measures m l p o.metrics
  pub min : kept o.min ≡ smallest m p.values
  pub max : kept o.max ≡ largest m p.values

-- it holds the page, which is within its limits
pub record Opened (m : Meaning) (l : Layout) (p : Page) (o : OpenPage) : Type 0 where
  pub holds : Holds m l p o
  pub well : WellFormed l p
  pub allowed : Allowed l

-- levels alone, and values alone
abbrev pub slots : List ℕ → List ℕ → Page
slots rs ds = record { reps = rs; defs = ds; values = [] }

abbrev pub filled : List (List ℕ) → Page
filled vs = record { reps = []; defs = []; values = vs }

-- so many levels up to a maximum, as they are given
pub record Given (most n : ℕ) (given : Option (List ℤ)) : Type 0 where
  pub count : length (levels_at most n given) ≡ n
  pub range : AllByRecursion (λ x. x ≤ most) (levels_at most n given)

-- levels of both kinds, as many as a batch may have, are added to any page that has room for them
abbrev pub LevelsAdded : Layout → ℕ → Option (List ℤ) → Option (List ℤ) → OpenPage → OpenPage → Type 0
LevelsAdded l n reps defs old new =
    (m : Meaning) (p : Page) → n ≤ 256 → Given l.max_rep_level n reps → Given l.max_def_level n defs → length p.reps + n ≤ 1024 → length p.defs + n ≤ 1024 → Holds m l p old
    → Holds m l (join p (slots (levels_at l.max_rep_level n reps) (levels_at l.max_def_level n defs))) new

-- values are added to any page that has room for them
abbrev pub ValuesAdded : Meaning → Layout → List (List ℕ) → OpenPage → OpenPage → Type 0
ValuesAdded m l vs old new =
    (p : Page) → l.width ≤ 128 → AllByRecursion (λ v. sized l.width v ≡ true) vs → length p.values + length vs ≤ 2048
    → length (plains l.width p.values) + length (plains l.width vs) ≤ 8191 → Holds m l p old → Holds m l (join p (filled vs)) new

-- the answer is how many bytes these are, at most 9,227
abbrev pub Sized : List ℕ → Option ℕ → Type 0
Sized bs r = (r ≡ Some (length bs)) × (length bs ≤ 9227)

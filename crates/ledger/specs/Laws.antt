-- What holds of a chunk's pages whatever they hold: counts add up, figures follow from the pages' own, bounds enclose
-- the values, and what the two orders of pages say.
use Rattle.std.specs.Prelude.{◌≡◌, ℕ, ◌+◌, ◌<◌, Bool, true, false, ◌⊎◌, List, [], ◌∷◌, map, length, get_or, Some, None, sum_by, Option, slice_index_or}
use Rattle.std.specs.List.{AllByRecursion}
use Rattle.kinds.specs.Meaning.{Meaning, greater}
use Rattle.figures.specs.Figures.{smallest, largest, lesser, higher}
use Rattle.flags.specs.Flags.{ascending, descending}
use Rattle.pages.specs.declared.layout.Layout.{Layout}
use Rattle.ledger.specs.Pages.{Page, blank, joined, nulls}
use Rattle.ledger.specs.Figures.{Figures, figures}
use Rattle.ledger.specs.Context.{Context}
use Rattle.ledger.specs.Entries.{lower, upper, Encloses}
use Rattle.ledger.specs.Records.{Order, stored_pairs}

-- ---- counts and figures

-- the nulls of all pages are the sum of those of each
abbrev pub NullsAddUp : ℕ → List Page → Type 0
NullsAddUp most ps = nulls most (joined ps) ≡ sum_by (λ p. nulls most p) ps

-- two rows of level counts added, level by level
abbrev pub added : List ℕ → List ℕ → List ℕ
added [] ns = ns
added (m ∷ ms) [] = m ∷ ms
added (m ∷ ms) (n ∷ ns) = (m + n) ∷ added ms ns

abbrev pub added_if : Option (List ℕ) → Option (List ℕ) → Option (List ℕ)
added_if None ns = ns
added_if (Some ms) None = Some ms
added_if (Some ms) (Some ns) = Some (added ms ns)

-- the figures of two pages together, from those of each
abbrev pub together : Meaning → Figures → Figures → Figures
together m a b = record {
  rows = a.rows + b.rows;
  levels = a.levels + b.levels;
  nulls = a.nulls + b.nulls;
  nans = a.nans + b.nans;
  rep_counts = added_if a.rep_counts b.rep_counts;
  def_counts = added_if a.def_counts b.def_counts;
  min = lesser m a.min b.min;
  max = higher m a.max b.max;
}

-- the figures of pages in a row together, from those of each
abbrev pub all_together : Meaning → Layout → List Figures → Figures
all_together m l [] = figures m l blank
all_together m l (f ∷ fs) = together m f (all_together m l fs)

-- the figures of all pages follow from those of each
abbrev pub FiguresJoin : Meaning → Layout → List Page → Type 0
FiguresJoin m l ps = figures m l (joined ps) ≡ all_together m l (map (figures m l) ps)

-- ---- bounds

-- a value that bounds speak of: one that is not NaN, or any where all are NaN
abbrev pub Spoken : Meaning → List (List ℕ) → List ℕ → Type 0
Spoken m vs v = (m.nan v ≡ false) ⊎ AllByRecursion (λ u. m.nan u ≡ true) vs

-- the stored bounds of a page enclose its values
abbrev pub PageEncloses : Meaning → Option ℕ → Page → Type 0
PageEncloses m cut p = (i : ℕ) → i < length p.values → Spoken m p.values (slice_index_or p.values i [])
    → Encloses m (lower m cut (smallest m p.values)).bytes (upper m cut (largest m p.values)).bytes (slice_index_or p.values i [])

-- those of each page do
abbrev pub BoundsEnclose : Meaning → Option ℕ → List Page → Type 0
BoundsEnclose m cut ps = AllByRecursion (λ p. PageEncloses m cut p) ps

-- ---- the order of pages

-- pages j and k have values, and no page between them has any
pub record Neighbours (ps : List Page) (j k : ℕ) : Type 0 where
  pub before : j < k
  pub within : k < length ps
  pub earlier : 0 < length (get_or ps j blank).values
  pub later : 0 < length (get_or ps k blank).values
  pub between : (i : ℕ) → j < i → i < k → length (get_or ps i blank).values ≡ 0

-- each page with values stands so to the last one before it that has values
abbrev pub InOrder : (Page → Page → Type 0) → List Page → Type 0
InOrder Stands ps = (j k : ℕ) → Neighbours ps j k → Stands (slice_index_or ps j blank) (slice_index_or ps k blank)

-- each page with values stands so to every one before it that has values
abbrev pub Throughout : (Page → Page → Type 0) → List Page → Type 0
Throughout Stands ps = (j k : ℕ) → j < k → k < length ps → 0 < length (get_or ps j blank).values → 0 < length (get_or ps k blank).values
    → Stands (slice_index_or ps j blank) (slice_index_or ps k blank)

-- both figures are there, and the first is not greater than the second
abbrev pub NotAbove : Meaning → Option (List ℕ) → Option (List ℕ) → Type 0
NotAbove m None b = ⊥
NotAbove m (Some a) None = ⊥
NotAbove m (Some a) (Some b) = greater m a b ≡ false

-- neither the smallest nor the largest value of the second page lies below that of the first
pub record Rises (m : Meaning) (p q : Page) : Type 0 where
  pub smallest : NotAbove m (Rattle.figures.specs.Figures.smallest m p.values) (Rattle.figures.specs.Figures.smallest m q.values)
  pub largest : NotAbove m (Rattle.figures.specs.Figures.largest m p.values) (Rattle.figures.specs.Figures.largest m q.values)

abbrev pub Ascends : Meaning → List Page → Type 0
Ascends m = InOrder (λ p q. Rises m p q)

abbrev pub Descends : Meaning → List Page → Type 0
Descends m = InOrder (λ p q. Rises m q p)

-- neither stored bound of the second page lies below that of the first
pub record StoredRises (m : Meaning) (cut : Option ℕ) (p q : Page) : Type 0 where
  pub lower : greater m (Rattle.ledger.specs.Entries.lower m cut (smallest m p.values)).bytes (Rattle.ledger.specs.Entries.lower m cut (smallest m q.values)).bytes ≡ false
  pub upper : greater m (Rattle.ledger.specs.Entries.upper m cut (largest m p.values)).bytes (Rattle.ledger.specs.Entries.upper m cut (largest m q.values)).bytes ≡ false

abbrev pub StoredAscends : Meaning → Option ℕ → List Page → Type 0
StoredAscends m cut = InOrder (λ p q. StoredRises m cut p q)

abbrev pub StoredDescends : Meaning → Option ℕ → List Page → Type 0
StoredDescends m cut = InOrder (λ p q. StoredRises m cut q p)

-- each of two statements gives the other
pub record Exactly (A B : Type 0) : Type 0 where
  pub then : A → B
  pub back : B → A

-- what a boundary order says of pages: 1 that their stored bounds ascend, 2 that they descend and do not ascend, 0 neither
pub record BoundaryOrder (m : Meaning) (cut : Option ℕ) (ps : List Page) (n : ℕ) : Type 0 where
  pub ascending : Exactly (n ≡ 1) (StoredAscends m cut ps)
  pub descending : Exactly (n ≡ 2) ((StoredAscends m cut ps → ⊥) × StoredDescends m cut ps)
  pub unordered : Exactly (n ≡ 0) ((StoredAscends m cut ps → ⊥) × (StoredDescends m cut ps → ⊥))

-- the two flags over the stored bounds of pages
pub record StoredFlags (m : Meaning) (cut : Option ℕ) (ps : List Page) (up down : Bool) : Type 0 where
  pub ascending : up ≡ Rattle.flags.specs.Flags.ascending m (stored_pairs m cut ps)
  pub descending : down ≡ Rattle.flags.specs.Flags.descending m (stored_pairs m cut ps)

-- what a record's order says of pages
pub record OrderSays (x : Context) (ps : List Page) (o : Order) : Type 0 where
  pub ascending : Exactly (o.ascending ≡ true) (Ascends x.kind ps)
  pub descending : Exactly (o.descending ≡ true) (Descends x.kind ps)
  pub boundary : BoundaryOrder x.kind x.settings.cut_length ps o.boundary

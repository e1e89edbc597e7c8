-- Figures of a list of values: smallest, largest and how many are NaN.
use Rattle.std.specs.Prelude.{◌≡◌, ℕ, ◌+◌, Bool, true, false, cond, not, List, [], ◌∷◌, ◌++◌, Some, None, Option}
use Rattle.std.specs.Borrow.{Bor}
use Rattle.std.specs.List.{list_any, filter, find}
use Rattle.kinds.specs.Meaning.{Meaning, greater}
use Rattle.figures.specs.declared.min_max.MinMax.{MinMax}

-- how many members pass the test
abbrev pub count : (List ℕ → Bool) → List (List ℕ) → ℕ
count p [] = 0
count p (v ∷ vs) = cond (p v) 1 0 + count p vs

-- the values that smallest and largest are taken over: those not NaN, or all where all are NaN
abbrev pub considered : Meaning → List (List ℕ) → List (List ℕ)
considered m vs = cond (list_any (λ v. not (m.nan v)) vs) (filter (λ v. not (m.nan v)) vs) vs

-- the first member that is above no other
abbrev pub lowest : (List ℕ → List ℕ → Bool) → List (List ℕ) → Option (List ℕ)
lowest above vs = find (λ v. not (list_any (λ u. above v u) vs)) vs

-- the first value greater than no other
abbrev pub smallest : Meaning → List (List ℕ) → Option (List ℕ)
smallest m vs = lowest (λ v u. greater m v u) (considered m vs)

-- the first value that no other exceeds
abbrev pub largest : Meaning → List (List ℕ) → Option (List ℕ)
largest m vs = lowest (λ v u. greater m u v) (considered m vs)

-- how many values are NaN
abbrev pub nan_count_of : Meaning → List (List ℕ) → ℕ
nan_count_of m vs = count m.nan vs

-- whether the second of two values takes the first one's place, by which of them is NaN and whether the first
-- is above the second: NaN gives way to a number, and never the other way round
abbrev pub replaces : Bool → Bool → Bool → Bool
replaces true true above = above
replaces true false above = true
replaces false true above = false
replaces false false above = above

-- of the figures of two lists, the one that the joined list has
abbrev pub merged : (List ℕ → Bool) → (List ℕ → List ℕ → Bool) → Option (List ℕ) → Option (List ℕ) → Option (List ℕ)
merged nan above None y = y
merged nan above (Some a) None = Some a
merged nan above (Some a) (Some b) = Some (cond (replaces (nan a) (nan b) (above a b)) b a)

-- whatever a test may answer of two values, it says whether the first is above the second
abbrev pub Tests : (Bor (List ℕ) → Bor (List ℕ) → Bool → Type 0) → (List ℕ → List ℕ → Bool) → Type 0
Tests answers above = (a b : Bor (List ℕ)) (r : Bool) → answers a b r → r ≡ above a.now b.now

-- of the smallest values of two lists, the joined list's
abbrev pub lesser : Meaning → Option (List ℕ) → Option (List ℕ) → Option (List ℕ)
lesser m = merged m.nan (λ v u. greater m v u)

-- of the largest values of two lists, the joined list's
abbrev pub higher : Meaning → Option (List ℕ) → Option (List ℕ) → Option (List ℕ)
higher m = merged m.nan (λ v u. greater m u v)

-- what taking one value more into the smallest of some values leaves: the smaller of the two, and so the smallest
-- of all of them, whatever the lists were
pub record MinUpdated (m : Meaning) (old : Option (List ℕ)) (v : List ℕ) (new : Option (List ℕ)) : Type 0 where
  pub value : new ≡ lesser m old (Some v)
  pub joined : (xs ys : List (List ℕ)) → old ≡ smallest m xs → Some v ≡ smallest m ys → new ≡ smallest m (xs ++ ys)

-- the same of the largest
pub record MaxUpdated (m : Meaning) (old : Option (List ℕ)) (v : List ℕ) (new : Option (List ℕ)) : Type 0 where
  pub value : new ≡ higher m old (Some v)
  pub joined : (xs ys : List (List ℕ)) → old ≡ largest m xs → Some v ≡ largest m ys → new ≡ largest m (xs ++ ys)

-- the figures of joined lists are those of the parts, merged; those of one value are the value
pub record Joins (m : Meaning) : Type 0 where
  pub smallest_of : (xs ys : List (List ℕ)) → smallest m (xs ++ ys) ≡ lesser m (smallest m xs) (smallest m ys)
  pub largest_of : (xs ys : List (List ℕ)) → largest m (xs ++ ys) ≡ higher m (largest m xs) (largest m ys)
  pub nans_of : (xs ys : List (List ℕ)) → nan_count_of m (xs ++ ys) ≡ nan_count_of m xs + nan_count_of m ys
  pub smallest_one : (v : List ℕ) → smallest m (v ∷ []) ≡ Some v
  pub largest_one : (v : List ℕ) → largest m (v ∷ []) ≡ Some v

-- the figures of some values, by the bytes of each
pub record FiguresOf {V : Type 0} (m : Meaning) (bytes : V → List ℕ) (vs : List (List ℕ)) (r : MinMax V) : Type 0 where
  pub min : smallest m vs ≡ Some (bytes r.min)
  pub max : largest m vs ≡ Some (bytes r.max)
  pub nans : r.nan_count ≡ nan_count_of m vs

-- whether a figure is there and no NaN
abbrev pub is_number : {V : Type 0} → Meaning → (V → List ℕ) → Option V → Bool
is_number m bytes None = false
is_number m bytes (Some v) = not (m.nan (bytes v))

-- smallest and largest are no NaN
abbrev pub AreNumbers : {V : Type 0} → Meaning → (V → List ℕ) → MinMax V → Type 0
AreNumbers m bytes r = (m.nan (bytes r.min) ≡ false) × (m.nan (bytes r.max) ≡ false)

-- absent exactly for the empty list
abbrev pub Found : {V : Type 0} → Meaning → (V → List ℕ) → List (List ℕ) → Option (MinMax V) → Type 0
Found m bytes vs None = vs ≡ []
Found m bytes vs (Some r) = FiguresOf m bytes vs r

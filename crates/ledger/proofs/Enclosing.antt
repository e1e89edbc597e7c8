-- Bounds enclose: what is lowest is above no value, a cut lies on the far side of it, and an order that splits carries
-- the one over to the other.
use Rattle.std.proofs.Common.{◌≡◌, ℕ, zero, suc, ◌<◌, Bool, true, false, cond, not, ◌⊎◌, List, [], ◌∷◌, length, get_or, Some, None, Option, sym, refl, ap, ◌∙◌, subst, ⊎_elim, arith}
use Rattle.std.proofs.ByRecursion.{All-get_or}
use Rattle.std.proofs.lemmas.Option.{same_Some}
use Rattle.std.proofs.lemmas.Bool.{cases_Bool, or_parts, both_ways, not-true, true≢false}
use Rattle.std.specs.List.{AllByRecursion, list_any, filter, find}
use Rattle.kinds.specs.Meaning.{Meaning, greater}
use Rattle.figures.specs.Figures.{lowest, smallest, largest, replaces}
use Rattle.figures.proofs.Lowest.{Test, Weak, picked, lowest-cons}
use Rattle.figures.proofs.Joined.{weak_behind, lowest_behind, weak_greater, weak_less}
use Rattle.ledger.specs.Pages.{Page}
use Rattle.ledger.specs.Entries.{lower, upper, Encloses}
use Rattle.ledger.specs.Laws.{Spoken, PageEncloses, BoundsEnclose}

-- ---- the lowest of a list

-- the first that passes does pass
first_passes : (p : List ℕ → Bool) (vs : List (List ℕ)) (s : List ℕ) → find p vs ≡ Some s → p s ≡ true
first_passes p [] s e = cc
first_passes p (v ∷ vs) s e =
    ⊎_elim
    (λ h. ap p (sym (same_Some v s (ap (λ b. cond b (Some v) (find p vs)) (sym h) ∙ e))) ∙ h)
    (λ h. first_passes p vs s (ap (λ b. cond b (Some v) (find p vs)) (sym h) ∙ e))
    (cases_Bool (p v))

-- what holds of each member holds of it
first_holds : (P : List ℕ → Type 0) (p : List ℕ → Bool) (vs : List (List ℕ)) (s : List ℕ) → AllByRecursion P vs → find p vs ≡ Some s → P s
first_holds P p [] s all e = cc
first_holds P p (v ∷ vs) s all e =
    ⊎_elim
    (λ h. subst P (same_Some v s (ap (λ b. cond b (Some v) (find p vs)) (sym h) ∙ e)) all.0)
    (λ h. first_holds P p vs s all.1 (ap (λ b. cond b (Some v) (find p vs)) (sym h) ∙ e))
    (cases_Bool (p v))

-- a test that no member passes fails at each
none_at : (q : List ℕ → Bool) (vs : List (List ℕ)) (i : ℕ) → list_any q vs ≡ false → i < length vs → q (get_or vs i []) ≡ false
none_at q [] i e h = absurd (omega arith)
none_at q (v ∷ vs) zero e h = (or_parts (q v) (list_any q vs) e).0
none_at q (v ∷ vs) (suc i) e h = none_at q vs i (or_parts (q v) (list_any q vs) e).1 (omega (arith, h))

picked_some : (above : Test) (x : List ℕ) (o : Option (List ℕ)) → (s : List ℕ) × (picked above (Some x) o ≡ Some s)
picked_some above x None = (x, refl)
picked_some above x (Some y) = (cond (above x y) y x, refl)

-- a list with members has a lowest
lowest_there : (above : Test) → Weak above → (vs : List (List ℕ)) → 0 < length vs → (s : List ℕ) × (lowest above vs ≡ Some s)
lowest_there above weak [] h = absurd (omega arith)
lowest_there above weak (v ∷ vs) h =
    let found = picked_some above v (lowest above vs) in
    (found.0, lowest-cons above weak v vs ∙ found.1)

-- ---- with NaN

module _ (nan : List ℕ → Bool) (above : Test) (weak : Weak above) where
  abbrev figure : List (List ℕ) → Option (List ℕ)
  figure vs = lowest above (cond (list_any (λ v. not (nan v)) vs) (filter (λ v. not (nan v)) vs) vs)

  abbrev behind : Test
  behind a b = replaces (nan a) (nan b) (above a b)

  pub figure_there : (vs : List (List ℕ)) → 0 < length vs → (s : List ℕ) × (figure vs ≡ Some s)
  figure_there vs h =
      let found = lowest_there behind (weak_behind nan above weak) vs h in
      (found.0, lowest_behind nan above vs ∙ found.1)

  of_numbers : (ns : Bool) (a : Bool) → replaces ns false a ≡ false → a ≡ false
  of_numbers true a e = absurd (true≢false e)
  of_numbers false a e = e

  -- a figure is above no value that is not NaN, and above none where all are
  pub figure_below : (vs : List (List ℕ)) (i : ℕ) (s : List ℕ) → i < length vs → figure vs ≡ Some s
      → (nan (get_or vs i []) ≡ false) ⊎ AllByRecursion (λ u. nan u ≡ true) vs → above s (get_or vs i []) ≡ false
  figure_below vs i s h e c =
      let v : List ℕ = get_or vs i [] in
      let p : List ℕ → Bool = λ u. not (list_any (λ x. behind u x) vs) in
      let low : find p vs ≡ Some s = sym (lowest_behind nan above vs) ∙ e in
      let apart : behind s v ≡ false =
      none_at (λ x. behind s x) vs i (not-true (list_any (λ x. behind s x) vs) (first_passes p vs s low)) h in
      ⊎_elim
      (λ n. of_numbers (nan s) (above s v) (ap (λ b. replaces (nan s) b (above s v)) (sym n) ∙ apart))
      (λ all.
      ap (λ b. replaces true b (above s v)) (sym (All-get_or (λ u. nan u ≡ true) vs i [] h all))
      ∙ ap (λ b. replaces b (nan v) (above s v)) (sym (first_holds (λ u. nan u ≡ true) p vs s all low)) ∙ apart)
      c

pub smallest_there : (m : Meaning) (vs : List (List ℕ)) → 0 < length vs → (s : List ℕ) × (smallest m vs ≡ Some s)
smallest_there m = figure_there m.nan (λ v u. greater m v u) (weak_greater m)

pub largest_there : (m : Meaning) (vs : List (List ℕ)) → 0 < length vs → (s : List ℕ) × (largest m vs ≡ Some s)
largest_there m = figure_there m.nan (λ v u. greater m u v) (weak_less m)

-- the smallest is not greater than any value, nor any value than the largest
pub smallest_below : (m : Meaning) (vs : List (List ℕ)) (i : ℕ) (s : List ℕ) → i < length vs → smallest m vs ≡ Some s → Spoken m vs (get_or vs i [])
    → greater m s (get_or vs i []) ≡ false
smallest_below m = figure_below m.nan (λ v u. greater m v u) (weak_greater m)

pub largest-above : (m : Meaning) (vs : List (List ℕ)) (i : ℕ) (s : List ℕ) → i < length vs → largest m vs ≡ Some s → Spoken m vs (get_or vs i [])
    → greater m (get_or vs i []) s ≡ false
largest-above m = figure_below m.nan (λ v u. greater m u v) (weak_less m)

-- ---- cuts

-- not being greater carries over
pub not_greater_on : (m : Meaning) (a b c : List ℕ) → greater m a b ≡ false → greater m b c ≡ false → greater m a c ≡ false
not_greater_on m a b c h k =
    ⊎_elim
    (λ t. absurd (⊎_elim (λ x. both_ways (greater m a b) h x) (λ x. both_ways (greater m b c) k x) (m.order.splits a b c t)))
    (λ t. t) (cases_Bool (greater m a c))

-- a lower bound is not greater than what its value is not greater than
pub lower_below : (m : Meaning) (cut : Option ℕ) (s v : List ℕ) → greater m s v ≡ false → greater m (lower m cut (Some s)).bytes v ≡ false
lower_below m None s v h = h
lower_below m (Some l) s v h = not_greater_on m (lower m (Some l) (Some s)).bytes s v (m.cuts.lower_below l s) h

pub upper_above : (m : Meaning) (cut : Option ℕ) (s v : List ℕ) → greater m v s ≡ false → greater m v (upper m cut (Some s)).bytes ≡ false
upper_above m None s v h = h
upper_above m (Some l) s v h = not_greater_on m v s (upper m (Some l) (Some s)).bytes h (m.cuts.upper_above l s)

-- ---- bounds

pub bounds_enclose_at : (m : Meaning) (cut : Option ℕ) (vs : List (List ℕ)) (i : ℕ) → i < length vs → Spoken m vs (get_or vs i [])
    → Encloses m (lower m cut (smallest m vs)).bytes (upper m cut (largest m vs)).bytes (get_or vs i [])
bounds_enclose_at m cut vs i h c =
    let v : List ℕ = get_or vs i [] in
    let lo = smallest_there m vs (omega (arith, h)) in
    let hi = largest_there m vs (omega (arith, h)) in
    record {
      above = ap (λ o. greater m (lower m cut o).bytes v) lo.1 ∙ lower_below m cut lo.0 v (smallest_below m vs i lo.0 h lo.1 c);
      below = ap (λ o. greater m v (upper m cut o).bytes) hi.1 ∙ upper_above m cut hi.0 v (largest-above m vs i hi.0 h hi.1 c);
    }

-- at any value that stands in the list
pub bounds_enclose : (m : Meaning) (cut : Option ℕ) (vs : List (List ℕ)) (v : List ℕ) (i : ℕ) → i < length vs → v ≡ get_or vs i [] → Spoken m vs v
    → Encloses m (lower m cut (smallest m vs)).bytes (upper m cut (largest m vs)).bytes v
bounds_enclose m cut vs v i h e c =
    subst (λ u. Encloses m (lower m cut (smallest m vs)).bytes (upper m cut (largest m vs)).bytes u) (sym e)
    (bounds_enclose_at m cut vs i h (subst (λ u. Spoken m vs u) e c))

pub page_encloses : (m : Meaning) (cut : Option ℕ) (p : Page) → PageEncloses m cut p
page_encloses m cut p = bounds_enclose_at m cut p.values

pub pages_enclose : (m : Meaning) (cut : Option ℕ) (ps : List Page) → BoundsEnclose m cut ps
pages_enclose m cut [] = tt
pages_enclose m cut (p ∷ ps) = (page_encloses m cut p, pages_enclose m cut ps)

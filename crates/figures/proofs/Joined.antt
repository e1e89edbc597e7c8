-- Figures of joined lists follow from those of the parts: NaN is put behind the numbers, and what is then an
-- order again has its lowest member found step by step.
use Rattle.std.proofs.Common.{◌≡◌, ℕ, ◌+◌, Bool, true, false, cond, not, ◌||◌, ◌⊎◌, List, [], ◌∷◌, ◌++◌, Some, None, Option, sym, refl, ap, ◌∙◌, inl, inr, ⊎_elim, add_assoc, zero-add}
use Rattle.std.proofs.lemmas.Bool.{cases_Bool, or_parts, or_cases, or_left, or_right, not-true, not-false, false≢true}
use Rattle.kinds.specs.Meaning.{Meaning, greater}
use Rattle.std.specs.List.{list_any, filter, find}
use Rattle.figures.specs.Figures.{count, lowest, smallest, largest, replaces, merged, lesser, higher, Joins, MinUpdated, MaxUpdated}
use Rattle.figures.proofs.Lowest.{Test, Weak, picked, lowest-append, lowest-none, irreflexive}

module _ (nan : List ℕ → Bool) (above : Test) where
  -- a number is never above NaN, and NaN above every number
  abbrev behind : Test
  behind a b = replaces (nan a) (nan b) (above a b)

  one_way_by : (a b : List ℕ) (na nb : Bool) → (above a b ≡ true → above b a ≡ false)
      → replaces na nb (above a b) ≡ true → replaces nb na (above b a) ≡ false
  one_way_by a b true true law h = law h
  one_way_by a b true false law h = refl
  one_way_by a b false true law h = absurd (false≢true h)
  one_way_by a b false false law h = law h

  splits_by : (a b c : List ℕ) (na nb nc : Bool) → (above a c ≡ true → (above a b ≡ true) ⊎ (above b c ≡ true))
      → replaces na nc (above a c) ≡ true → (replaces na nb (above a b) ≡ true) ⊎ (replaces nb nc (above b c) ≡ true)
  splits_by a b c true true true law h = law h
  splits_by a b c true false nc law h = inl refl
  splits_by a b c true true false law h = inr refl
  splits_by a b c false nb true law h = absurd (false≢true h)
  splits_by a b c false true false law h = inr refl
  splits_by a b c false false false law h = law h

  pub weak_behind : Weak above → Weak behind
  weak_behind w = record {
    one_way = λ a b. one_way_by a b (nan a) (nan b) (w.one_way a b);
    splits = λ a b c. splits_by a b c (nan a) (nan b) (nan c) (w.splits a b c);
  }

  abbrev number : List ℕ → Bool
  number v = not (nan v)

  -- ---- where all are NaN

  any_nan : (u : List ℕ) → nan u ≡ true → (vs : List (List ℕ)) → list_any number vs ≡ false
      → list_any (λ x. behind u x) vs ≡ list_any (λ x. above u x) vs
  any_nan u hu [] h = refl
  any_nan u hu (x ∷ vs) h =
      let parts = or_parts (number x) (list_any number vs) h in
      let hx : nan x ≡ true = not-false (nan x) parts.0 in
      ap (λ b. replaces b (nan x) (above u x) || list_any (λ y. behind u y) vs) hu
      ∙ ap (λ b. replaces true b (above u x) || list_any (λ y. behind u y) vs) hx
      ∙ ap (λ b. above u x || b) (any_nan u hu vs parts.1)

  first-nan : (vs ws : List (List ℕ)) → list_any number vs ≡ false → list_any number ws ≡ false
      → find (λ u. not (list_any (λ x. above u x) vs)) ws ≡ find (λ u. not (list_any (λ x. behind u x) vs)) ws
  first-nan vs [] h k = refl
  first-nan vs (w ∷ ws) h k =
      let parts = or_parts (number w) (list_any number ws) k in
      let e = any_nan w (not-false (nan w) parts.0) vs h in
      ap (λ b. cond (not b) (Some w) (find (λ u. not (list_any (λ x. above u x) vs)) ws)) (sym e)
      ∙ ap (λ o. cond (not (list_any (λ x. behind w x) vs)) (Some w) o) (first-nan vs ws h parts.1)

  -- ---- where some are numbers

  nan-above : (u : List ℕ) → nan u ≡ true → (vs : List (List ℕ)) → list_any number vs ≡ true → list_any (λ x. behind u x) vs ≡ true
  nan-above u hu [] h = absurd (false≢true h)
  nan-above u hu (x ∷ vs) h =
      ⊎_elim
      (λ t.
      or_left (behind u x) (list_any (λ y. behind u y) vs)
      (ap (λ b. replaces b (nan x) (above u x)) hu ∙ ap (λ b. replaces true b (above u x)) (not-true (nan x) t)))
      (λ t. or_right (behind u x) (list_any (λ y. behind u y) vs) (nan-above u hu vs t))
      (or_cases (number x) (list_any number vs) h)

  number-above : (u : List ℕ) → nan u ≡ false → (vs : List (List ℕ)) → list_any (λ x. behind u x) vs ≡ list_any (λ x. above u x) (filter number vs)
  number-above u hu [] = refl
  number-above u hu (x ∷ vs) =
      ⊎_elim
      (λ t.
      ap (λ b. replaces b (nan x) (above u x) || list_any (λ y. behind u y) vs) hu
      ∙ ap (λ b. replaces false b (above u x) || list_any (λ y. behind u y) vs) t
      ∙ number-above u hu vs
      ∙ ap (λ b. list_any (λ y. above u y) (cond (not b) (x ∷ filter number vs) (filter number vs))) (sym t))
      (λ t.
      ap (λ b. replaces b (nan x) (above u x) || list_any (λ y. behind u y) vs) hu
      ∙ ap (λ b. replaces false b (above u x) || list_any (λ y. behind u y) vs) t
      ∙ ap (λ b. above u x || b) (number-above u hu vs)
      ∙ ap (λ b. list_any (λ y. above u y) (cond (not b) (x ∷ filter number vs) (filter number vs))) (sym t))
      (cases_Bool (nan x))

  first-number : (vs ws : List (List ℕ)) → list_any number vs ≡ true
      → find (λ u. not (list_any (λ x. above u x) (filter number vs))) (filter number ws) ≡ find (λ u. not (list_any (λ x. behind u x) vs)) ws
  first-number vs [] h = refl
  first-number vs (w ∷ ws) h =
      let p : List ℕ → Bool = λ u. not (list_any (λ x. above u x) (filter number vs)) in
      let q : List ℕ → Bool = λ u. not (list_any (λ x. behind u x) vs) in
      ⊎_elim
      (λ t.
      ap (λ b. find p (cond (not b) (w ∷ filter number ws) (filter number ws))) t
      ∙ first-number vs ws h
      ∙ ap (λ b. cond (not b) (Some w) (find q ws)) (sym (nan-above w t vs h)))
      (λ t.
      ap (λ b. find p (cond (not b) (w ∷ filter number ws) (filter number ws))) t
      ∙ ap (λ b. cond (not b) (Some w) (find p (filter number ws))) (sym (number-above w t vs))
      ∙ ap (λ o. cond (q w) (Some w) o) (first-number vs ws h))
      (cases_Bool (nan w))

  -- the lowest of the values considered is the lowest of all once NaN stands behind
  pub lowest_behind : (vs : List (List ℕ)) → lowest above (cond (list_any number vs) (filter number vs) vs) ≡ lowest behind vs
  lowest_behind vs =
      ⊎_elim
      (λ t. ap (λ b. lowest above (cond b (filter number vs) vs)) t ∙ first-number vs vs t)
      (λ t. ap (λ b. lowest above (cond b (filter number vs) vs)) t ∙ first-nan vs vs t t)
      (cases_Bool (list_any number vs))

  merged_picked : (x y : Option (List ℕ)) → picked behind x y ≡ merged nan above x y
  merged_picked None y = refl
  merged_picked (Some a) None = refl
  merged_picked (Some a) (Some b) = refl

  pub lowest-joined : Weak above → (xs ys : List (List ℕ))
      → lowest above (cond (list_any number (xs ++ ys)) (filter number (xs ++ ys)) (xs ++ ys))
      ≡ merged nan above (lowest above (cond (list_any number xs) (filter number xs) xs)) (lowest above (cond (list_any number ys) (filter number ys) ys))
  lowest-joined w xs ys =
      lowest_behind (xs ++ ys) ∙ lowest-append behind (weak_behind w) xs ys
      ∙ ap (λ o. picked behind o (lowest behind ys)) (sym (lowest_behind xs))
      ∙ ap (λ o. picked behind (lowest above (cond (list_any number xs) (filter number xs) xs)) o) (sym (lowest_behind ys))
      ∙ merged_picked (lowest above (cond (list_any number xs) (filter number xs) xs)) (lowest above (cond (list_any number ys) (filter number ys) ys))

  pub lowest-one : Weak above → (v : List ℕ) → lowest above (cond (list_any number (v ∷ [])) (filter number (v ∷ [])) (v ∷ [])) ≡ Some v
  lowest-one w v =
      lowest_behind (v ∷ []) ∙ ap (λ b. cond (not (b || false)) (Some v) None) (irreflexive behind (weak_behind w) v)

-- ---- the two figures

pub weak_greater : (m : Meaning) → Weak (λ v u. greater m v u)
weak_greater m = record { one_way = m.order.one_way; splits = m.order.splits }

pub weak_less : (m : Meaning) → Weak (λ v u. greater m u v)
weak_less m = record {
  one_way = λ a b h. m.order.one_way b a h;
  splits = λ a b c h. ⊎_elim inr inl (m.order.splits c b a h);
}

pub smallest-joined : (m : Meaning) (xs ys : List (List ℕ)) → smallest m (xs ++ ys) ≡ lesser m (smallest m xs) (smallest m ys)
smallest-joined m = lowest-joined m.nan (λ v u. greater m v u) (weak_greater m)

pub largest-joined : (m : Meaning) (xs ys : List (List ℕ)) → largest m (xs ++ ys) ≡ higher m (largest m xs) (largest m ys)
largest-joined m = lowest-joined m.nan (λ v u. greater m u v) (weak_less m)

pub smallest_one : (m : Meaning) (v : List ℕ) → smallest m (v ∷ []) ≡ Some v
smallest_one m = lowest-one m.nan (λ v u. greater m v u) (weak_greater m)

pub largest_one : (m : Meaning) (v : List ℕ) → largest m (v ∷ []) ≡ Some v
largest_one m = lowest-one m.nan (λ v u. greater m u v) (weak_less m)

pub smallest-none : (m : Meaning) (vs : List (List ℕ)) → smallest m vs ≡ None → vs ≡ []
smallest-none m vs e =
    lowest-none (behind m.nan (λ v u. greater m v u)) (weak_behind m.nan (λ v u. greater m v u) (weak_greater m)) vs
    (sym (lowest_behind m.nan (λ v u. greater m v u) vs) ∙ e)

pub largest-none : (m : Meaning) (vs : List (List ℕ)) → largest m vs ≡ None → vs ≡ []
largest-none m vs e =
    lowest-none (behind m.nan (λ v u. greater m u v)) (weak_behind m.nan (λ v u. greater m u v) (weak_less m)) vs
    (sym (lowest_behind m.nan (λ v u. greater m u v) vs) ∙ e)

pub count-joined : (p : List ℕ → Bool) (xs ys : List (List ℕ)) → count p (xs ++ ys) ≡ count p xs + count p ys
count-joined p [] ys = sym (zero-add (count p ys))
count-joined p (x ∷ xs) ys = ap (λ n. cond (p x) 1 0 + n) (count-joined p xs ys) ∙ sym (add_assoc (cond (p x) 1 0) (count p xs) (count p ys))

pub joins : (m : Meaning) → Joins m
joins m = record {
  smallest_of = smallest-joined m;
  largest_of = largest-joined m;
  nans_of = count-joined m.nan;
  smallest_one = smallest_one m;
  largest_one = largest_one m;
}

pub min_updated : (m : Meaning) (old : Option (List ℕ)) (v : List ℕ) (new : Option (List ℕ)) → new ≡ lesser m old (Some v) → MinUpdated m old v new
min_updated m old v new e = record {
  value = e;
  joined = λ xs ys p q. e ∙ ap (λ o. lesser m o (Some v)) p ∙ ap (λ o. lesser m (smallest m xs) o) q ∙ sym (smallest-joined m xs ys);
}

pub max_updated : (m : Meaning) (old : Option (List ℕ)) (v : List ℕ) (new : Option (List ℕ)) → new ≡ higher m old (Some v) → MaxUpdated m old v new
max_updated m old v new e = record {
  value = e;
  joined = λ xs ys p q. e ∙ ap (λ o. higher m o (Some v)) p ∙ ap (λ o. higher m (largest m xs) o) q ∙ sym (largest-joined m xs ys);
}

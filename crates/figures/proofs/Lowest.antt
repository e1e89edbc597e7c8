-- The first member above no other, step by step: by the two laws of an order, it is found by comparing
-- each member with the lowest of those behind it.
use Rattle.std.proofs.Common.{◌≡◌, ℕ, Bool, true, false, cond, not, ◌||◌, ◌⊎◌, List, [], ◌∷◌, ◌++◌, Some, None, Option, sym, refl, ap, ◌∙◌, ⊎_elim}
use Rattle.std.proofs.lemmas.Option.{same_Some}
use Rattle.std.proofs.lemmas.Bool.{cases_Bool, or_parts, or_from, or_left, or_right, both_ways, not-true, not_from_true}
use Rattle.std.specs.List.{list_any, find}
use Rattle.figures.specs.Figures.{lowest}

abbrev pub Test : Type 0
Test = List ℕ → List ℕ → Bool

-- the two laws of an order
pub record Weak (above : Test) : Type 0 where
  pub one_way : (a b : List ℕ) → above a b ≡ true → above b a ≡ false
  pub splits : (a b c : List ℕ) → above a c ≡ true → (above a b ≡ true) ⊎ (above b c ≡ true)

-- of two, the second only if the first is above it
abbrev pub picked : Test → Option (List ℕ) → Option (List ℕ) → Option (List ℕ)
picked above None y = y
picked above (Some a) None = Some a
picked above (Some a) (Some b) = Some (cond (above a b) b a)

pub first-same : (p q : List ℕ → Bool) → ((v : List ℕ) → p v ≡ q v) → (vs : List (List ℕ)) → find p vs ≡ find q vs
first-same p q e [] = refl
first-same p q e (v ∷ vs) =
    ap (λ b. cond b (Some v) (find p vs)) (e v) ∙ ap (λ o. cond (q v) (Some v) o) (first-same p q e vs)

-- the first that passes does pass
first_passes : (p : List ℕ → Bool) (vs : List (List ℕ)) (s : List ℕ) → find p vs ≡ Some s → p s ≡ true
first_passes p [] s e = cc
first_passes p (v ∷ vs) s e =
    ⊎_elim
    (λ h. ap p (sym (same_Some v s (ap (λ b. cond b (Some v) (find p vs)) (sym h) ∙ e))) ∙ h)
    (λ h. first_passes p vs s (ap (λ b. cond b (Some v) (find p vs)) (sym h) ∙ e))
    (cases_Bool (p v))

-- a test that it passes, some member passes
first_any : (p q : List ℕ → Bool) (vs : List (List ℕ)) (s : List ℕ) → find p vs ≡ Some s → q s ≡ true → list_any q vs ≡ true
first_any p q [] s e t = cc
first_any p q (v ∷ vs) s e t =
    ⊎_elim
    (λ h. or_left (q v) (list_any q vs) (ap q (same_Some v s (ap (λ b. cond b (Some v) (find p vs)) (sym h) ∙ e)) ∙ t))
    (λ h. or_right (q v) (list_any q vs) (first_any p q vs s (ap (λ b. cond b (Some v) (find p vs)) (sym h) ∙ e) t))
    (cases_Bool (p v))

module _ (above : Test) (weak : Weak above) where
  pub irreflexive : (v : List ℕ) → above v v ≡ false
  irreflexive v = ⊎_elim (λ h. weak.one_way v v h) (λ h. h) (cases_Bool (above v v))

  -- what is not above the lowest is above none
  above_none : (v s : List ℕ) (vs : List (List ℕ)) → above v s ≡ false → list_any (λ u. above s u) vs ≡ false → list_any (λ u. above v u) vs ≡ false
  above_none v s [] h k = refl
  above_none v s (x ∷ vs) h k =
      let parts = or_parts (above s x) (list_any (λ u. above s u) vs) k in
      or_from (above v x) (list_any (λ u. above v u) vs)
      (⊎_elim
      (λ t. absurd (⊎_elim (λ a. both_ways (above v s) h a) (λ a. both_ways (above s x) parts.0 a) (weak.splits v s x t)))
      (λ t. t)
      (cases_Bool (above v x)))
      (above_none v s vs h parts.1)

  step : (v s : List ℕ) (vs : List (List ℕ)) → lowest above vs ≡ Some s → lowest above (v ∷ vs) ≡ Some (cond (above v s) s v)
  step v s vs e =
      let p : List ℕ → Bool = λ u. not (list_any (λ x. above u x) (v ∷ vs)) in
      let q : List ℕ → Bool = λ u. not (list_any (λ x. above u x) vs) in
      let none : list_any (λ u. above s u) vs ≡ false = not-true (list_any (λ u. above s u) vs) (first_passes q vs s e) in
      ⊎_elim
      (λ t.
      let pv : p v ≡ false =
      not_from_true (above v v || list_any (λ u. above v u) vs)
      (or_right (above v v) (list_any (λ u. above v u) vs) (first_any q (λ u. above v u) vs s e t)) in
      let same : (u : List ℕ) → p u ≡ q u =
      λ u. ap not
      (⊎_elim
      (λ h. or_right (above u v) (list_any (λ x. above u x) vs) h ∙ sym h)
      (λ h. or_from (above u v) (list_any (λ x. above u x) vs)
      (⊎_elim (λ a. weak.one_way v u a)
      (λ a. absurd (both_ways (list_any (λ x. above u x) vs) h (first_any q (λ x. above u x) vs s e a)))
      (weak.splits v u s t)) h ∙ sym h)
      (cases_Bool (list_any (λ x. above u x) vs))) in
      ap (λ b. cond b (Some v) (find p vs)) pv ∙ first-same p q same vs ∙ e ∙ ap (λ b. Some (cond b s v)) (sym t))
      (λ t.
      let pv : p v ≡ true =
      ap not (or_from (above v v) (list_any (λ u. above v u) vs) (irreflexive v) (above_none v s vs t none)) in
      ap (λ b. cond b (Some v) (find p vs)) pv ∙ ap (λ b. Some (cond b s v)) (sym t))
      (cases_Bool (above v s))

  picked_some : (x : List ℕ) (o : Option (List ℕ)) → (s : List ℕ) × (picked above (Some x) o ≡ Some s)
  picked_some x None = (x, refl)
  picked_some x (Some y) = (cond (above x y) y x, refl)

  pub lowest-cons : (v : List ℕ) (vs : List (List ℕ)) → lowest above (v ∷ vs) ≡ picked above (Some v) (lowest above vs)
  lowest-cons v [] = ap (λ b. cond (not (b || false)) (Some v) None) (irreflexive v)
  lowest-cons v (x ∷ xs) =
      let some = picked_some x (lowest above xs) in
      let e : lowest above (x ∷ xs) ≡ Some some.0 = lowest-cons x xs ∙ some.1 in
      step v some.0 (x ∷ xs) e ∙ ap (λ o. picked above (Some v) o) (sym e)

  -- a list without a lowest member is empty
  pub lowest-none : (vs : List (List ℕ)) → lowest above vs ≡ None → vs ≡ []
  lowest-none [] e = refl
  lowest-none (v ∷ vs) e =
      let some = picked_some v (lowest above vs) in
      (let none : ◌≡◌ {A = Option (List ℕ)} None (Some some.0) = sym e ∙ lowest-cons v vs ∙ some.1 in cc)

  picked_three : (a b c : List ℕ) → picked above (picked above (Some a) (Some b)) (Some c) ≡ picked above (Some a) (picked above (Some b) (Some c))
  picked_three a b c =
      ⊎_elim
      (λ ab. ⊎_elim
      (λ bc.
      let ac : above a c ≡ true =
      ⊎_elim (λ h. h) (λ h. absurd (both_ways (above c b) (weak.one_way b c bc) h)) (weak.splits a c b ab) in
      ap (λ t. Some (cond (above (cond t b a) c) c (cond t b a))) ab ∙ ap (λ t. Some (cond t c b)) bc
      ∙ sym (ap (λ t. Some (cond (above a (cond t c b)) (cond t c b) a)) bc ∙ ap (λ t. Some (cond t c a)) ac))
      (λ bc.
      ap (λ t. Some (cond (above (cond t b a) c) c (cond t b a))) ab ∙ ap (λ t. Some (cond t c b)) bc
      ∙ sym (ap (λ t. Some (cond (above a (cond t c b)) (cond t c b) a)) bc ∙ ap (λ t. Some (cond t b a)) ab))
      (cases_Bool (above b c)))
      (λ ab. ⊎_elim
      (λ bc.
      ap (λ t. Some (cond (above (cond t b a) c) c (cond t b a))) ab
      ∙ sym (ap (λ t. Some (cond (above a (cond t c b)) (cond t c b) a)) bc))
      (λ bc.
      let ac : above a c ≡ false =
      ⊎_elim
      (λ h. absurd (⊎_elim (λ k. both_ways (above a b) ab k) (λ k. both_ways (above b c) bc k) (weak.splits a b c h)))
      (λ h. h) (cases_Bool (above a c)) in
      ap (λ t. Some (cond (above (cond t b a) c) c (cond t b a))) ab ∙ ap (λ t. Some (cond t c a)) ac
      ∙ sym (ap (λ t. Some (cond (above a (cond t c b)) (cond t c b) a)) bc ∙ ap (λ t. Some (cond t b a)) ab))
      (cases_Bool (above b c)))
      (cases_Bool (above a b))

  pub picked_assoc : (x y z : Option (List ℕ)) → picked above (picked above x y) z ≡ picked above x (picked above y z)
  picked_assoc None y z = refl
  picked_assoc (Some a) None z = refl
  picked_assoc (Some a) (Some b) None = refl
  picked_assoc (Some a) (Some b) (Some c) = picked_three a b c

  pub lowest-append : (xs ys : List (List ℕ)) → lowest above (xs ++ ys) ≡ picked above (lowest above xs) (lowest above ys)
  lowest-append [] ys = refl
  lowest-append (x ∷ xs) ys =
      lowest-cons x (xs ++ ys) ∙ ap (λ o. picked above (Some x) o) (lowest-append xs ys)
      ∙ sym (picked_assoc (Some x) (lowest above xs) (lowest above ys))
      ∙ ap (λ o. picked above o (lowest above ys)) (sym (lowest-cons x xs))

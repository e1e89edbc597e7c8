-- A walk over values that keeps the figures of those so far.
use Rattle.std.proofs.Common.{◌≡◌, ℕ, ◌+◌, ◌<◌, ◌≤◌, Bool, true, false, cond, List, [], ◌∷◌, ◌++◌, Some, Option, sym, refl, ap, ◌∙◌, subst, append_assoc, add-zero, arith}
use Rattle.std.proofs.lemmas.List.{append-nil}
use Rattle.std.specs.Option.{option_map}
use Rattle.kinds.specs.Meaning.{Meaning, greater}
use Rattle.figures.specs.Figures.{smallest, largest, nan_count_of, replaces, lesser, higher, FiguresOf, AreNumbers, MinUpdated, MaxUpdated}
use Rattle.figures.specs.Ranked.{HasItsRank}
use Rattle.figures.specs.declared.min_max.MinMax.{MinMax}
use Rattle.figures.specs.declared.ranked.Ranked.{Ranked}
use Rattle.figures.proofs.Joined.{smallest_one, largest_one, smallest-joined, largest-joined, count-joined}

-- the figures of the i values so far
pub record Seen {V : Type 0} (m : Meaning) (bytes : V → List ℕ) (vs : List (List ℕ)) (lo hi : Option V) (n i : ℕ) : Type 0 where
  pub min : option_map bytes lo ≡ smallest m vs
  pub max : option_map bytes hi ≡ largest m vs
  pub nans : n ≡ nan_count_of m vs
  pub few : n ≤ i

one_or_none : (b : Bool) → cond b 1 0 ≤ 1
one_or_none true = omega arith
one_or_none false = omega arith

nans_more : (m : Meaning) (vs : List (List ℕ)) (v : List ℕ) (n : ℕ) → n ≡ nan_count_of m vs → n + cond (m.nan v) 1 0 ≡ nan_count_of m (vs ++ v ∷ [])
nans_more m vs v n e =
    ap (λ k. k + cond (m.nan v) 1 0) e ∙ ap (λ k. nan_count_of m vs + k) (sym (add-zero (cond (m.nan v) 1 0))) ∙ sym (count-joined m.nan vs (v ∷ []))

-- each of them takes one value more
pub seen_more : {V : Type 0} (m : Meaning) (bytes : V → List ℕ) (vs : List (List ℕ)) (lo hi lo' hi' : Option V) (n n' i : ℕ) (v : List ℕ)
    → Seen m bytes vs lo hi n i → MinUpdated m (option_map bytes lo) v (option_map bytes lo') → MaxUpdated m (option_map bytes hi) v (option_map bytes hi')
    → n' ≡ n + cond (m.nan v) 1 0 → Seen m bytes (vs ++ v ∷ []) lo' hi' n' (i + 1)
seen_more m bytes vs lo hi lo' hi' n n' i v s min max e = record {
  min = min.joined vs (v ∷ []) s.min (sym (smallest_one m v));
  max = max.joined vs (v ∷ []) s.max (sym (largest_one m v));
  nans = e ∙ nans_more m vs v n s.nans;
  few = omega (arith, s.few, e, one_or_none (m.nan v));
}

-- ---- one value more, where the figures are numbers

chosen : {V : Type 0} (bytes : V → List ℕ) (b : Bool) (x y : V) → Some (cond b (bytes x) (bytes y)) ≡ Some (bytes (cond b x y))
chosen bytes true x y = refl
chosen bytes false x y = refl

-- a value or another, neither NaN
pub chosen_number : {V : Type 0} (m : Meaning) (bytes : V → List ℕ) (b : Bool) (x y z : V) → m.nan (bytes x) ≡ false → m.nan (bytes y) ≡ false
    → z ≡ cond b x y → m.nan (bytes z) ≡ false
chosen_number m bytes true x y z p q e = ap (λ v. m.nan (bytes v)) e ∙ p
chosen_number m bytes false x y z p q e = ap (λ v. m.nan (bytes v)) e ∙ q

module _ {V : Type 0} (m : Meaning) (bytes : V → List ℕ) (vs : List (List ℕ)) (r s : MinMax V) (v : V) where
  more : FiguresOf m bytes vs r → lesser m (Some (bytes r.min)) (Some (bytes v)) ≡ Some (bytes s.min)
      → higher m (Some (bytes r.max)) (Some (bytes v)) ≡ Some (bytes s.max) → s.nan_count ≡ r.nan_count + cond (m.nan (bytes v)) 1 0
      → FiguresOf m bytes (vs ++ bytes v ∷ []) s
  more f lo hi n = record {
    min = smallest-joined m vs (bytes v ∷ []) ∙ ap (λ o. lesser m o (smallest m (bytes v ∷ []))) f.min ∙ ap (λ o. lesser m (Some (bytes r.min)) o) (smallest_one m (bytes v)) ∙ lo;
    max = largest-joined m vs (bytes v ∷ []) ∙ ap (λ o. higher m o (largest m (bytes v ∷ []))) f.max ∙ ap (λ o. higher m (Some (bytes r.max)) o) (largest_one m (bytes v)) ∙ hi;
    nans = n ∙ nans_more m vs (bytes v) r.nan_count f.nans;
  }

  -- NaN changes neither
  pub nan_more : AreNumbers m bytes r → m.nan (bytes v) ≡ true → s.min ≡ r.min → s.max ≡ r.max → s.nan_count ≡ r.nan_count + 1
      → FiguresOf m bytes vs r → FiguresOf m bytes (vs ++ bytes v ∷ []) s
  nan_more a t lo hi n f =
      more f
      (ap (λ b. Some (cond (replaces b (m.nan (bytes v)) (greater m (bytes r.min) (bytes v))) (bytes v) (bytes r.min))) a.0
      ∙ ap (λ b. Some (cond (replaces false b (greater m (bytes r.min) (bytes v))) (bytes v) (bytes r.min))) t ∙ ap (λ x. Some (bytes x)) (sym lo))
      (ap (λ b. Some (cond (replaces b (m.nan (bytes v)) (greater m (bytes v) (bytes r.max))) (bytes v) (bytes r.max))) a.1
      ∙ ap (λ b. Some (cond (replaces false b (greater m (bytes v) (bytes r.max))) (bytes v) (bytes r.max))) t ∙ ap (λ x. Some (bytes x)) (sym hi))
      (n ∙ ap (λ b. r.nan_count + cond b 1 0) (sym t))

  -- a number changes the one that it passes
  pub number_more : AreNumbers m bytes r → m.nan (bytes v) ≡ false → s.min ≡ cond (greater m (bytes r.min) (bytes v)) v r.min
      → s.max ≡ cond (greater m (bytes v) (bytes r.max)) v r.max → s.nan_count ≡ r.nan_count
      → FiguresOf m bytes vs r → FiguresOf m bytes (vs ++ bytes v ∷ []) s
  number_more a t lo hi n f =
      more f
      (ap (λ b. Some (cond (replaces b (m.nan (bytes v)) (greater m (bytes r.min) (bytes v))) (bytes v) (bytes r.min))) a.0
      ∙ ap (λ b. Some (cond (replaces false b (greater m (bytes r.min) (bytes v))) (bytes v) (bytes r.min))) t
      ∙ chosen bytes (greater m (bytes r.min) (bytes v)) v r.min ∙ ap (λ x. Some (bytes x)) (sym lo))
      (ap (λ b. Some (cond (replaces b (m.nan (bytes v)) (greater m (bytes v) (bytes r.max))) (bytes v) (bytes r.max))) a.1
      ∙ ap (λ b. Some (cond (replaces false b (greater m (bytes v) (bytes r.max))) (bytes v) (bytes r.max))) t
      ∙ chosen bytes (greater m (bytes v) (bytes r.max)) v r.max ∙ ap (λ x. Some (bytes x)) (sym hi))
      (n ∙ sym (add-zero r.nan_count) ∙ ap (λ b. r.nan_count + cond b 1 0) (sym t))

-- ---- all values behind, where the figures are numbers

-- a value or another, each with its rank
chosen_ranked : {V : Type 0} (rank : List ℕ → ℕ) (bytes : V → List ℕ) (b : Bool) (x y z : Ranked V) → HasItsRank rank bytes x → HasItsRank rank bytes y
    → z ≡ cond b x y → HasItsRank rank bytes z
chosen_ranked rank bytes true x y z p q e = subst (HasItsRank rank bytes) (sym e) p
chosen_ranked rank bytes false x y z p q e = subst (HasItsRank rank bytes) (sym e) q

chosen_value : {V : Type 0} (b : Bool) (x y z : Ranked V) → z ≡ cond b x y → z.value ≡ cond b x.value y.value
chosen_value true x y z e = ap (λ r. r.value) e
chosen_value false x y z e = ap (λ r. r.value) e

-- of values added to figures, which are numbers if there are any to add, so many so far
pub record Added {V : Type 0} (m : Meaning) (rank : List ℕ → ℕ) (bytes : V → List ℕ) (from : MinMax V) (all i : ℕ) (ws : List (List ℕ)) (lo hi : Ranked V) (n : ℕ) : Type 0 where
  pub few : n ≤ from.nan_count + i
  pub low : HasItsRank rank bytes lo
  pub high : HasItsRank rank bytes hi
  pub numbers : 0 < all → AreNumbers m bytes (record { min = lo.value; max = hi.value; nan_count = n })
  pub figures : (vs : List (List ℕ)) → FiguresOf m bytes vs from → FiguresOf m bytes (vs ++ ws) (record { min = lo.value; max = hi.value; nan_count = n })

module _ {V : Type 0} (m : Meaning) (rank : List ℕ → ℕ) (bytes : V → List ℕ) (from : MinMax V) (all : ℕ) where
  pub added_none : (lo hi : Ranked V) → lo.value ≡ from.min → hi.value ≡ from.max → HasItsRank rank bytes lo → HasItsRank rank bytes hi
      → (0 < all → AreNumbers m bytes from) → Added m rank bytes from all 0 [] lo hi from.nan_count
  added_none lo hi p q low high h = record {
    few = omega arith;
    low = low;
    high = high;
    numbers = λ some. rw (p, q) (h some);
    figures = λ vs f. rw (p, q) (subst (λ ws. FiguresOf m bytes ws from) (sym (append-nil vs)) f);
  }

  pub added_nan : (i : ℕ) (ws : List (List ℕ)) (lo hi : Ranked V) (n : ℕ) (v : V) → i < all → m.nan (bytes v) ≡ true
      → Added m rank bytes from all i ws lo hi n → Added m rank bytes from all (i + 1) (ws ++ bytes v ∷ []) lo hi (n + 1)
  added_nan i ws lo hi n v h t a = record {
    few = omega (arith, a.few);
    low = a.low;
    high = a.high;
    numbers = λ _. a.numbers (omega arith);
    figures = λ vs f.
        subst (λ us. FiguresOf m bytes us (record { min = lo.value; max = hi.value; nan_count = n + 1 })) (append_assoc vs ws (bytes v ∷ []))
        (nan_more m bytes (vs ++ ws) (record { min = lo.value; max = hi.value; nan_count = n }) (record { min = lo.value; max = hi.value; nan_count = n + 1 }) v
        (a.numbers (omega arith)) t refl refl refl (a.figures vs f));
  }

  pub added_number : (i : ℕ) (ws : List (List ℕ)) (lo hi lo' hi' v : Ranked V) (n : ℕ) → i < all → m.nan (bytes v.value) ≡ false → HasItsRank rank bytes v
      → lo' ≡ cond (greater m (bytes lo.value) (bytes v.value)) v lo → hi' ≡ cond (greater m (bytes v.value) (bytes hi.value)) v hi
      → Added m rank bytes from all i ws lo hi n → Added m rank bytes from all (i + 1) (ws ++ bytes v.value ∷ []) lo' hi' n
  added_number i ws lo hi lo' hi' v n h t r p q a =
      let below = greater m (bytes lo.value) (bytes v.value) in
      let above = greater m (bytes v.value) (bytes hi.value) in
      let low = chosen_value below v lo lo' p in
      let high = chosen_value above v hi hi' q in
      record {
        few = omega (arith, a.few);
        low = chosen_ranked rank bytes below v lo lo' r a.low p;
        high = chosen_ranked rank bytes above v hi hi' r a.high q;
        numbers = λ _.
            let b = a.numbers (omega arith) in
            (chosen_number m bytes below v.value lo.value lo'.value t b.0 low, chosen_number m bytes above v.value hi.value hi'.value t b.1 high);
        figures = λ vs f.
            subst (λ us. FiguresOf m bytes us (record { min = lo'.value; max = hi'.value; nan_count = n })) (append_assoc vs ws (bytes v.value ∷ []))
            (number_more m bytes (vs ++ ws) (record { min = lo.value; max = hi.value; nan_count = n }) (record { min = lo'.value; max = hi'.value; nan_count = n }) v.value
            (a.numbers (omega arith)) t low high refl (a.figures vs f));
      }

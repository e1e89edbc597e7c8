-- Values of one length, laid down one after the other: each that is laid takes that many bytes more.
use Rattle.std.proofs.Common.{◌≡◌, ℕ, zero, suc, ◌+◌, ◌*◌, ◌-◌, ◌<◌, ◌≤◌, ◌≢◌, Bool, true, false, List, [], ◌∷◌, ◌++◌, length, get_or, take, drop, map, None, Option, Decides, MatchBool, sym, refl, ap, subst, ◌∙◌, arith}
use Rattle.std.specs.List.{AllWithin, HoldsAt, concat}
use Rattle.std.proofs.ByRecursion.{All-get_or}
use Rattle.std.proofs.lemmas.Bool.{false≢true}
use Rattle.std.proofs.lemmas.List.{append-nil, length-append, length-drop, length-map, length-take-le, take_more}
use Rattle.std.proofs.lemmas.List.Folds.{concat-append}
use Rattle.std.proofs.lemmas.Nat.{mul-le}
use Rattle.std.proofs.lemmas.Slice.{take-put_mid}
use borrow.Rule.Slice.PartMut.{put_mid}
use Rattle.buffers.specs.Buffers.{Appended, AppendedAll, HaveLength}

length-concat : (w : ℕ) (vs : List (List ℕ)) → HaveLength w vs → length (concat vs) ≡ length vs * w
length-concat w [] h = omega arith
length-concat w (v ∷ vs) h = omega (arith, length-append v (concat vs), length-concat w vs h.1, h.0)

pub length-together : {V : Type 0} (bytes : V → List ℕ) (w : ℕ) (xs : List V) → HaveLength w (map bytes xs) → length (concat (map bytes xs)) ≡ length xs * w
length-together bytes w xs h = length-concat w (map bytes xs) h ∙ ap (λ n. n * w) (length-map xs bytes)

concat_more : (vs : List (List ℕ)) (i : ℕ) → i < length vs → concat (take (i + 1) vs) ≡ concat (take i vs) ++ get_or vs i []
concat_more vs i h =
    ap concat (take_more vs i [] h) ∙ concat-append (take i vs) (get_or vs i [] ∷ []) ∙ ap (λ x. concat (take i vs) ++ x) (append-nil (get_or vs i []))

-- ---- a place behind each value

-- the first i values are laid down, up to a place
pub record LaidSoFar (w : ℕ) (vs : List (List ℕ)) (i place : ℕ) (out : List ℕ) : Type 0 where
  pub reached : place ≡ i * w
  pub front : take place out ≡ concat (take i vs)

module _ (w : ℕ) (vs : List (List ℕ)) (i place : ℕ) (out : List ℕ) (h : i < length vs) (even : HaveLength w vs) (l : length out ≡ length vs * w) (s : LaidSoFar w vs i place out) where
  next_fits : place + w ≤ length out
  next_fits = omega (arith, s.reached, l, mul-le (i + 1) w (length vs) w (omega arith) (omega arith))

  module _ (v : List ℕ) (e : v ≡ get_or vs i []) where
    next_length : length v ≡ w
    next_length = ap length e ∙ All-get_or (λ u. length u ≡ w) vs i [] h even

    pub next_long : length (take (place + w - place) (drop place out)) ≡ length v
    next_long =
        length-take-le (place + w - place) (drop place out) (omega (arith, next_fits, length-drop place out)) ∙ omega (arith, next_length)

    pub next_laid : (new : List ℕ) → new ≡ v → LaidSoFar w vs (i + 1) (place + w) (put_mid place (place + w - place) out new)
    next_laid new b = record {
      reached = omega (arith, s.reached);
      front =
          take-put_mid place (place + w - place) out new (place + w) (omega (arith, ap length b, next_length)) (omega (arith, next_fits))
          ∙ ap (λ x. x ++ new) s.front ∙ ap (λ x. concat (take i vs) ++ x) (b ∙ e) ∙ sym (concat_more vs i h);
    }

-- ---- what is answered

pub appended_none : (n : ℕ) (old : List ℕ) (vs : List (List ℕ)) (new : List ℕ) (r : Option (Unit {0})) → length vs ≤ 0 → Appended n old [] new r → AppendedAll n old vs new r
appended_none n old [] new r empty a = (λ _ _. a, λ none. absurd (none 0 tt))
appended_none n old (v ∷ vs) new r empty a = absurd (omega (arith, empty))

module _ (n : ℕ) (old : List ℕ) (vs : List (List ℕ)) (w : ℕ) where
  same_length : 0 < length vs → w ≡ length (get_or vs 0 []) → (u : ℕ) → HaveLength u vs → u ≡ w
  same_length some has u h = sym (All-get_or (λ v. length v ≡ u) vs 0 [] some h) ∙ sym has

  pub refused_uneven : 0 < length vs → w ≡ length (get_or vs 0 []) → ¬ HaveLength w vs → AppendedAll n old vs old None
  refused_uneven some has uneven =
      (λ u h. absurd (uneven (subst (λ k. HaveLength k vs) (same_length some has u h) h)), λ _. (refl, refl))

  pub appended_even : (new : List ℕ) (r : Option (Unit {0})) → HaveLength w vs → Appended n old (concat vs) new r → AppendedAll n old vs new r
  appended_even new r even a = (λ _ _. a, λ none. absurd (none w even))

-- ---- whether each value has so many bytes

module _ {V : Type 0} (bytes : V → List ℕ) (w : ℕ) where
  all_have : (vs : List V) → AllWithin (λ v. length (bytes v) ≡ w) vs 0 (length vs) → HaveLength w (map bytes vs)
  all_have [] h = tt
  all_have (v ∷ vs) h = (h 0 v (omega arith) (omega arith), all_have vs (λ k d l m. h (suc k) d (omega arith) (omega arith)))

  one_has_not : (vs : List V) (k : ℕ) → k < length vs → HoldsAt (λ v. length (bytes v) ≢ w) vs k → HaveLength w (map bytes vs) → ⊥
  one_has_not [] k l n h = absurd (omega arith)
  one_has_not (v ∷ vs) zero l n h = n v h.0
  one_has_not (v ∷ vs) (suc k) l n h = one_has_not vs k (omega arith) n h.1

  pub told : (vs : List V) (r : Bool) → MatchBool r (AllWithin (λ v. length (bytes v) ≡ w) vs 0 (length vs)) ((k : ℕ) × (k < length vs) × HoldsAt (λ v. length (bytes v) ≢ w) vs k)
      → Decides r (HaveLength w (map bytes vs))
  told vs true h = (λ e. all_have vs h, λ g. refl)
  told vs false h = (λ e. absurd (false≢true e), λ g. absurd (one_has_not vs h.0 h.1 h.2 g))

-- Numbers of one sign: bytes ahead that are no sign extension decide, and otherwise the last bytes do.
use Rattle.std.proofs.Common.{◌≡◌, ◌≢◌, ℕ, min, zero, suc, ◌+◌, ◌-◌, ◌<◌, ◌≤◌, Bool, true, false, not, eqb, ltb, List, [], ◌∷◌, ◌++◌, length, take, drop, replicate, Some, None, Option, sym, refl, ap, ◌∙◌, ⊎_elim, append_assoc, arith}
use mathlib.Core.Bool.{beq}
use Rattle.std.specs.List.{list_all}
use Rattle.std.specs.Bool.{then_some}
use Rattle.std.specs.Borrow.{Bor}
use Rattle.std.specs.Option.{option_copied}
use Rattle.std.proofs.lemmas.Bool.{cases_eq, cases_lt, cond-true, cond-false, lt-ltb, eq-eqb, ne_eqb, eqb-true, and_parts, and_from, true≢false}
use Rattle.std.proofs.lemmas.List.{take-append-drop, length-take-le, length-drop, take_at, length-replicate, replicate-append-replicate}
use Rattle.strings.specs.Lexical.{above, Bytes}
use Rattle.strings.proofs.Orders.{one_way}
use Rattle.strings.proofs.Numbers.{bytes_take}
use Rattle.decimals.specs.Extensions.{extension, extended, sign, Unextended}
use Rattle.decimals.specs.Decimals.{decimal}
use Rattle.decimals.proofs.Values.{length-extended, signed_of, greater_there, greater_extended, other_signs, one_sign}

-- a shared lead does not matter
same_lead : (k e : ℕ) (a b : List ℕ) → above (replicate k e ++ a) (replicate k e ++ b) ≡ above a b
same_lead zero e a b = refl
same_lead (suc k) e a b =
    cond-true (eqb e e) (above (replicate k e ++ a) (replicate k e ++ b)) (ltb e e) (eq-eqb e e refl) ∙ same_lead k e a b

-- where one is not 0, the bytes are above 0s
above_zeros : (u a b : List ℕ) → u ≢ replicate (length u) 0 → above (u ++ a) (replicate (length u) 0 ++ b) ≡ true
above_zeros [] a b h = absurd (h refl)
above_zeros (x ∷ u) a b h =
    ⊎_elim
    (λ q.
    cond-true (eqb x 0) (above (u ++ a) (replicate (length u) 0 ++ b)) (ltb 0 x) (eq-eqb x 0 q)
    ∙ above_zeros u a b (λ e. h (λ i. q i ∷ e i)))
    (λ q. cond-false (eqb x 0) (above (u ++ a) (replicate (length u) 0 ++ b)) (ltb 0 x) (ne_eqb x 0 q) ∙ lt-ltb 0 x (omega arith))
    (cases_eq x 0)

-- where one is not 255, 255s are above the bytes
above_full : (u a b : List ℕ) → Bytes u → u ≢ replicate (length u) 255 → above (replicate (length u) 255 ++ b) (u ++ a) ≡ true
above_full [] a b t h = absurd (h refl)
above_full (x ∷ u) a b t h =
    ⊎_elim
    (λ q.
    cond-true (eqb 255 x) (above (replicate (length u) 255 ++ b) (u ++ a)) (ltb x 255) (eq-eqb 255 x (sym q))
    ∙ above_full u a b t.1 (λ e. h (λ i. q i ∷ e i)))
    (λ q. cond-false (eqb 255 x) (above (replicate (length u) 255 ++ b) (u ++ a)) (ltb x 255) (ne_eqb 255 x (λ e. q (sym e))) ∙ lt-ltb x 255 (omega (arith, t.0)))
    (cases_eq x 255)

other_lead : (n : Bool) (u a b : List ℕ) → Bytes u → u ≢ replicate (length u) (extension n)
    → (above (u ++ a) (replicate (length u) (extension n) ++ b) ≡ not n) × (above (replicate (length u) (extension n) ++ b) (u ++ a) ≡ n)
other_lead true u a b t h = let r = above_full u a b t h in (one_way (replicate (length u) 255 ++ b) (u ++ a) r, r)
other_lead false u a b t h = let r = above_zeros u a b h in (r, one_way (u ++ a) (replicate (length u) 0 ++ b) r)

-- ---- against a shorter number

extended_self : (n : Bool) (a : List ℕ) → a ≡ extended (length a) n a
extended_self n a = let z : 0 ≡ length a - length a = omega arith in ap (λ k. replicate k (extension n) ++ a) z

-- what is none of m bytes, sign-extended, has more
longer : (n : Bool) (m k : ℕ) (a : List ℕ) → m ≡ min (length a) k → ((t : List ℕ) → length t ≡ m → a ≢ extended (length a) n t) → k < length a
longer n m k a e f = ⊎_elim (λ h. h) (λ h. absurd (f a (omega arith) (extended_self n a))) (cases_lt k (length a))

-- and decides against any number of m bytes, by its own sign
other_extended : (n : Bool) (m : ℕ) (a b : List ℕ) → Bytes a → m ≡ length b → m ≤ length a
    → ((t : List ℕ) → length t ≡ m → a ≢ extended (length a) n t)
    → (above a (extended (length a) n b) ≡ not n) × (above (extended (length a) n b) a ≡ n)
other_extended n m a b p e h f =
    let k = length a - length b in
    let u : length (take k a) ≡ k = length-take-le k a (omega arith) in
    let d : length a - length (drop k a) ≡ length (take k a) = omega (arith, length-drop k a) in
    let w : take k a ≢ replicate (length (take k a)) (extension n) =
    λ q. f (drop k a) (omega (arith, length-drop k a)) (sym (take-append-drop k a) ∙ ap (λ x. x ++ drop k a) q ∙ ap (λ j. replicate j (extension n) ++ drop k a) (sym d)) in
    let r = other_lead n (take k a) (drop k a) b (bytes_take k a p) w in (
      (λ i. above (sym (take-append-drop k a) i) (replicate (sym u i) (extension n) ++ b)) ∙ r.0,
      (λ i. above (replicate (sym u i) (extension n) ++ b) (sym (take-append-drop k a) i)) ∙ r.1,
    )

-- ---- of equal length without their sign extension

extended_again : (n : Bool) (m l : ℕ) (t : List ℕ) → length t ≤ l → l ≤ m → extended m n (extended l n t) ≡ extended m n t
extended_again n m l t h k =
    ap (λ j. replicate (m - j) (extension n) ++ extended l n t) (length-extended l n t h)
    ∙ sym (append_assoc (replicate (m - l) (extension n)) (replicate (l - length t) (extension n)) t)
    ∙ ap (λ x. x ++ t) (replicate-append-replicate (m - l) (l - length t) (extension n) ∙ ap (λ j. replicate j (extension n)) (omega arith))

-- two numbers in m bytes compare as their last l bytes do, where these are the numbers without sign extension
last_above : (n : Bool) (m l : ℕ) (a b s t : List ℕ) → length a ≤ m → length b ≤ m → l ≤ length a → l ≤ length b
    → length s ≡ l → length t ≡ l → a ≡ extended (length a) n s → b ≡ extended (length b) n t
    → above (extended m n a) (extended m n b) ≡ above s t
last_above n m l a b s t ha hb ka kb ls lt ea eb =
    let da : extended m n a ≡ extended m n s = ap (extended m n) ea ∙ extended_again n m (length a) s (omega arith) ha in
    let db : extended m n b ≡ extended m n t = ap (extended m n) eb ∙ extended_again n m (length b) t (omega arith) hb in
    (λ i. above (da i) (db i)) ∙ ap (λ j. above (replicate (m - length s) (extension n) ++ s) (replicate (m - j) (extension n) ++ t)) (lt ∙ sym ls)
    ∙ same_lead (m - length s) (extension n) s t

-- ---- which of two numbers of one sign is greater, where m is the length of the shorter

module _ (n : Bool) (m : ℕ) (a b : List ℕ) (p : Bytes a) (q : Bytes b) (s : sign a ≡ Some n) (t : sign b ≡ Some n) (e : m ≡ min (length a) (length b)) where
  in_bytes : (l : ℕ) → length a ≤ l → length b ≤ l → decimal.greater a b ≡ above (extended l n a) (extended l n b)
  in_bytes l h k = greater_there n n a b s t ∙ greater_extended n l a b p q (signed_of n a p s) (signed_of n b q t) h k

  first_decides : ((x : List ℕ) → length x ≡ m → a ≢ extended (length a) n x) → not n ≡ decimal.greater a b
  first_decides f =
      let h : length b < length a = longer n m (length b) a e f in
      sym (in_bytes (length a) (omega arith) (omega arith) ∙ ap (λ x. above x (extended (length a) n b)) (sym (extended_self n a))
      ∙ (other_extended n m a b p (omega arith) (omega arith) f).0)

  second_decides : ((x : List ℕ) → length x ≡ m → b ≢ extended (length b) n x) → n ≡ decimal.greater a b
  second_decides f =
      let h : length a < length b = longer n m (length a) b (omega arith) f in
      sym (in_bytes (length b) (omega arith) (omega arith) ∙ ap (λ x. above (extended (length b) n a) x) (sym (extended_self n b))
      ∙ (other_extended n m b a q (omega arith) (omega arith) f).1)

  last_decide : (x y : List ℕ) → (length x ≡ m) × (a ≡ extended (length a) n x) → (length y ≡ m) × (b ≡ extended (length b) n y)
      → above x y ≡ decimal.greater a b
  last_decide x y f g =
      sym (in_bytes (length a + length b) (omega arith) (omega arith)
      ∙ last_above n (length a + length b) m a b x y (omega arith) (omega arith) (omega arith) (omega arith) f.0 g.0 f.1 g.1)

-- so which is greater, by the signs and by what stands ahead of the last m bytes
module _ (n o : Bool) (a b : List ℕ) (p : Bytes a) (q : Bytes b) (s : Some n ≡ sign a) (t : Some o ≡ sign b) where
  pub signs_decide : not (beq o n) ≡ true → not n ≡ decimal.greater a b
  signs_decide d = sym (greater_there n o a b (sym s) (sym t) ∙ other_signs n o a b p q (signed_of n a p (sym s)) (signed_of o b q (sym t)) d)

  module _ (m : ℕ) (d : not (beq o n) ≡ false) (e : m ≡ min (length a) (length b)) where
    same : sign b ≡ Some n
    same = sym t ∙ ap Some (one_sign n o d)

    pub first_is_longer : Unextended m n a None → not n ≡ decimal.greater a b
    first_is_longer f = first_decides n m a b p q (sym s) same e f

    pub second_is_longer : Unextended m n b None → n ≡ decimal.greater a b
    second_is_longer f = second_decides n m a b p q (sym s) same e f

    pub last_bytes : (x y : List ℕ) → Unextended m n a (Some x) → Unextended m n b (Some y) → above x y ≡ decimal.greater a b
    last_bytes x y f g = last_decide n m a b p q (sym s) same e x y f g

-- the check finds these two by itself, and has to be shown the others
pub ruleset decides = (signs_decide, second_is_longer)

-- ---- what the test of the bytes ahead says

all_same : (e : ℕ) (u : List ℕ) → list_all (λ x. eqb x e) u ≡ true → u ≡ replicate (length u) e
all_same e [] h = refl
all_same e (x ∷ u) h = let p = and_parts (eqb x e) (list_all (λ x. eqb x e) u) h in λ i. eqb-true x e p.0 i ∷ all_same e u p.1 i

same_all : (e k : ℕ) → list_all (λ x. eqb x e) (replicate k e) ≡ true
same_all e zero = refl
same_all e (suc k) = and_from (eqb e e) (list_all (λ x. eqb x e) (replicate k e)) (eq-eqb e e refl) (same_all e k)

unextended_by : (n : Bool) (m : ℕ) (v lead last : List ℕ) (r : Bool) → m ≤ length v → lead ≡ take (length v - m) v → last ≡ drop (length v - m) v
    → r ≡ list_all (λ x. eqb x (extension n)) lead → Unextended m n v (then_some r last)
unextended_by n m v lead last true h f g e =
    let k = length v - m in
    let u : length lead ≡ length v - length last = omega (arith, ap length f, ap length g, length-take-le k v (omega arith), length-drop k v) in (
      omega (arith, ap length g, length-drop k v),
      sym (take-append-drop k v) ∙ (λ i. sym f i ++ sym g i) ∙ ap (λ x. x ++ last) (all_same (extension n) lead (sym e)) ∙ ap (λ j. replicate j (extension n) ++ last) u,
    )
unextended_by n m v lead last false h f g e = λ t q w.
    let k = length v - m in
    let j = length v - length t in
    let u : length (replicate j (extension n)) ≡ k = omega (arith, length-replicate {A = ℕ} j (extension n)) in
    let d : lead ≡ replicate j (extension n) = f ∙ ap (take k) w ∙ take_at (replicate j (extension n)) t k u in
    true≢false (sym (same_all (extension n) j) ∙ ap (list_all (λ x. eqb x (extension n))) (sym d) ∙ sym e)

-- so what the test answers
pub unextended_is : (n : Bool) (m : ℕ) (v : List ℕ) (o : Option (Bor (List ℕ))) (lead last : Bor (List ℕ)) (r : Bool) → o ≡ then_some r last → m ≤ length v
    → lead.now ≡ take (length v - m) v → last.now ≡ drop (length v - m) v → r ≡ list_all (λ x. eqb x (extension n)) lead.now → Unextended m n v (option_copied o)
unextended_is n m v o lead last true w h f g e = rw w (unextended_by n m v lead.now last.now true h f g e)
unextended_is n m v o lead last false w h f g e = rw w (unextended_by n m v lead.now last.now false h f g e)

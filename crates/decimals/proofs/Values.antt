-- Two's complement: sign extension keeps the value, and numbers of one sign and length compare as their bytes do.
use Rattle.std.proofs.Common.{◌≡◌, ℕ, zero, suc, ◌+◌, ◌-◌, ◌*◌, ◌^◌, ◌<◌, ◌≤◌, Bool, true, false, not, eqb, ltb, leb, List, [], ◌∷◌, ◌++◌, length, replicate, Some, pos, negsuc, ◌-ℤ◌, sym, refl, ap, ◌∙◌, ⊎_elim, mul-le-mul_right, arith}
use mathlib.Core.Bool.{beq}
use native.Mathlib.Nat.{pow-succ'}
use lib.Arith.{digits_lt}
use lib.Signed.{lt_z}
use Rattle.std.proofs.lemmas.Int.{ints}
use Rattle.std.proofs.lemmas.Option.{none-some, same_Some}
use Rattle.std.proofs.lemmas.Bool.{cases_order, cases_lt, cond-true, cond-false, lt-ltb, le-ltb, leb-true, leb-false, eq-eqb, ne_eqb, false≢true, true≢false}
use Rattle.std.proofs.lemmas.List.{length-append, length-replicate}
use Rattle.strings.specs.Lexical.{above, Bytes}
use Rattle.strings.specs.Numbers.{number}
use Rattle.strings.proofs.Numbers.{number_lt}
use Rattle.decimals.specs.Decimals.{value, decimal}
use Rattle.decimals.specs.Extensions.{extension, extended, sign}

-- ---- the value, by the first byte

pub value_pos : (v : List ℕ) → 2 * number v < 256 ^ length v → value v ≡ pos (number v)
value_pos v h = cond-true (ltb (2 * number v) (256 ^ length v)) (pos (number v)) (pos (number v) -ℤ pos (256 ^ length v)) (lt-ltb _ _ h)

pub less : (m n : ℕ) → m < n → pos m -ℤ pos n ≡ negsuc (n - suc m)
less m n h = omega (arith, ints)

pub value_neg : (v : List ℕ) → 256 ^ length v ≤ 2 * number v → number v < 256 ^ length v → value v ≡ negsuc (256 ^ length v - suc (number v))
value_neg v h k =
    cond-false (ltb (2 * number v) (256 ^ length v)) (pos (number v)) (pos (number v) -ℤ pos (256 ^ length v)) (le-ltb _ _ h)
    ∙ less (number v) (256 ^ length v) k

pub first_low : (x : ℕ) (v : List ℕ) → Bytes v → x < 128 → 2 * number (x ∷ v) < 256 ^ length (x ∷ v)
first_low x v b h =
    let k : x * 256 ^ length v + number v < 128 * 256 ^ length v = digits_lt h (number_lt v b) in
    rw (pow-succ' 256 (length v)) (omega arith)

pub first_high : (x : ℕ) (v : List ℕ) → 128 ≤ x → 256 ^ length (x ∷ v) ≤ 2 * number (x ∷ v)
first_high x v h =
    let k : 128 * 256 ^ length v ≤ x * 256 ^ length v = mul-le-mul_right (256 ^ length v) h in
    rw (pow-succ' 256 (length v)) (omega arith)

-- ---- bytes of one length

same_test : (a b : ℕ) (p q : ℕ) → (a < b → p < q) → (b ≤ a → q ≤ p) → ltb a b ≡ ltb p q
same_test a b p q f g =
    ⊎_elim (λ h. lt-ltb a b h ∙ sym (lt-ltb p q (f h))) (λ h. le-ltb a b h ∙ sym (le-ltb p q (g h))) (cases_lt a b)

pub above-number : (a b : List ℕ) → Bytes a → Bytes b → length a ≡ length b → above a b ≡ ltb (number b) (number a)
above-number [] [] p q e = refl
above-number [] (y ∷ b) p q e = absurd (omega arith)
above-number (x ∷ a) [] p q e = absurd (omega arith)
above-number (x ∷ a) (y ∷ b) p q e =
    let l : length a ≡ length b = omega arith in
    let w : x * 256 ^ length a ≡ x * 256 ^ length b = ap (λ n. x * 256 ^ n) l in
    let u : y * 256 ^ length a ≡ y * 256 ^ length b = ap (λ n. y * 256 ^ n) l in
    let na = number_lt a p.1 in
    let nb = number_lt b q.1 in
    ⊎_elim
    (λ s.
    let t : x * 256 ^ length b ≡ y * 256 ^ length b = ap (λ n. n * 256 ^ length b) s in
    cond-true (eqb x y) (above a b) (ltb y x) (eq-eqb x y s) ∙ above-number a b p.1 q.1 l
    ∙ same_test (number b) (number a) (number (y ∷ b)) (number (x ∷ a)) (λ h. omega arith) (λ h. omega arith))
    (⊎_elim
    (λ s. cond-false (eqb x y) (above a b) (ltb y x) (ne_eqb x y (λ z. omega arith)) ∙ le-ltb y x (omega arith)
    ∙ sym (le-ltb (number (y ∷ b)) (number (x ∷ a)) (omega (arith, digits_lt s na))))
    (λ s. cond-false (eqb x y) (above a b) (ltb y x) (ne_eqb x y (λ z. omega arith)) ∙ lt-ltb y x s
    ∙ sym (lt-ltb (number (y ∷ b)) (number (x ∷ a)) (omega (arith, digits_lt s nb)))))
    (cases_order x y)

-- a number has a sign
abbrev pub Signed : Bool → List ℕ → Type 0
Signed true v = 256 ^ length v ≤ 2 * number v
Signed false v = 2 * number v < 256 ^ length v

pub signed-first : (n : Bool) (x : ℕ) (v : List ℕ) → Bytes v → n ≡ leb 128 x → Signed n (x ∷ v)
signed-first true x v b e = first_high x v (leb-true 128 x (sym e))
signed-first false x v b e = first_low x v b (leb-false 128 x (sym e))

pub same_sign : (n : Bool) (a b : List ℕ) → Bytes a → Bytes b → length a ≡ length b → Signed n a → Signed n b
    → lt_z (value b) (value a) ≡ above a b
same_sign true a b p q e s t =
    let g : 256 ^ length a ≡ 256 ^ length b = ap (λ n. 256 ^ n) e in
    let na = number_lt a p in
    let nb = number_lt b q in
    (λ i. lt_z (value_neg b t nb i) (value_neg a s na i))
    ∙ same_test (256 ^ length a - suc (number a)) (256 ^ length b - suc (number b)) (number b) (number a) (λ h. omega arith) (λ h. omega arith)
    ∙ sym (above-number a b p q e)
same_sign false a b p q e s t = (λ i. lt_z (value_pos b t i) (value_pos a s i)) ∙ sym (above-number a b p q e)

-- ---- sign extension

pub extension_byte : (n : Bool) → extension n < 256
extension_byte true = omega arith
extension_byte false = omega arith

pub number_extend : (n : Bool) (v : List ℕ) → Bytes v → Signed n v → Signed n (extension n ∷ v) × (value (extension n ∷ v) ≡ value v)
number_extend true v b s =
    let p = pow-succ' 256 (length v) in
    let k = number_lt v b in
    let t : 256 ^ length (255 ∷ v) ≤ 2 * number (255 ∷ v) = first_high 255 v (omega arith) in
    (t, value_neg (255 ∷ v) t (omega arith) ∙ ap negsuc (omega arith) ∙ sym (value_neg v s k))
number_extend false v b s =
    let t : 2 * number (0 ∷ v) < 256 ^ length (0 ∷ v) = first_low 0 v b (omega arith) in
    (t, value_pos (0 ∷ v) t ∙ ap pos (omega arith) ∙ sym (value_pos v s))

pub record Extends (n : Bool) (k : ℕ) (v : List ℕ) : Type 0 where
  pub bytes : Bytes (replicate k (extension n) ++ v)
  pub signed : Signed n (replicate k (extension n) ++ v)
  pub same : value (replicate k (extension n) ++ v) ≡ value v

pub extends : (n : Bool) (k : ℕ) (v : List ℕ) → Bytes v → Signed n v → Extends n k v
extends n zero v b s = record { bytes = b; signed = s; same = refl }
extends n (suc k) v b s =
    let e = extends n k v b s in
    let w = number_extend n (replicate k (extension n) ++ v) e.bytes e.signed in
    record { bytes = (extension_byte n, e.bytes); signed = w.0; same = w.1 ∙ e.same }

pub length-extended : (m : ℕ) (n : Bool) (b : List ℕ) → length b ≤ m → length (extended m n b) ≡ m
length-extended m n b h =
    length-append (replicate (m - length b) (extension n)) b ∙ omega (arith, length-replicate {A = ℕ} (m - length b) (extension n))

-- ---- which of two numbers of one sign is greater, in m bytes

pub greater_extended : (n : Bool) (m : ℕ) (a b : List ℕ) → Bytes a → Bytes b → Signed n a → Signed n b → length a ≤ m → length b ≤ m
    → lt_z (value b) (value a) ≡ above (extended m n a) (extended m n b)
greater_extended n m a b p q s t h k =
    let d = extends n (m - length a) a p s in
    let e = extends n (m - length b) b q t in
    (λ i. lt_z (sym e.same i) (sym d.same i))
    ∙ same_sign n (extended m n a) (extended m n b) d.bytes e.bytes (length-extended m n a h ∙ sym (length-extended m n b k)) d.signed e.signed

-- and of two numbers of different sign
pub other_signs : (n m : Bool) (a b : List ℕ) → Bytes a → Bytes b → Signed n a → Signed m b → not (beq m n) ≡ true → lt_z (value b) (value a) ≡ not n
other_signs true true a b p q s t d = absurd (false≢true d)
other_signs false false a b p q s t d = absurd (false≢true d)
other_signs true false a b p q s t d = λ i. lt_z (value_pos b t i) (value_neg a s (number_lt a p) i)
other_signs false true a b p q s t d = λ i. lt_z (value_neg b t (number_lt b q) i) (value_pos a s i)

pub one_sign : (n m : Bool) → not (beq m n) ≡ false → m ≡ n
one_sign true true d = refl
one_sign false false d = refl
one_sign true false d = absurd (true≢false d)
one_sign false true d = absurd (true≢false d)

-- ---- numbers that are there

pub signed_of : (n : Bool) (v : List ℕ) → Bytes v → sign v ≡ Some n → Signed n v
signed_of n [] b e = absurd (none-some n e)
signed_of n (x ∷ v) b e = signed-first n x v b.1 (sym (same_Some (leb 128 x) n e))

pub greater_there : (n m : Bool) (a b : List ℕ) → sign a ≡ Some n → sign b ≡ Some m → decimal.greater a b ≡ lt_z (value b) (value a)
greater_there n m [] b e f = absurd (none-some n e)
greater_there n m (x ∷ a) [] e f = absurd (none-some m f)
greater_there n m (x ∷ a) (y ∷ b) e f = refl

-- Rows of bits: their lengths, what is cut from them, and the bits of a number that is joined from two.
use Rattle.std.proofs.Common.{◌≡◌, ℕ, zero, suc, ◌+◌, ◌*◌, ◌/◌, ◌%◌, ◌^◌, ◌<◌, Bool, true, false, cond, eqb, List, [], ◌∷◌, ◌++◌, reverse, length, take, drop, replicate, sym, refl, ap, ◌∙◌, subst, append_assoc, mul_assoc, suc-mul, mul_comm, add_comm, pow-suc, zero-mul, add-one, arith, length-append}
use native.Mathlib.Nat.{pow-succ'}
use lib.ListN.{length-reverse}
use Rattle.std.proofs.lemmas.Bool.{eq-eqb, ne_eqb}
use Rattle.std.proofs.lemmas.Bool.Decides.{nat_tests}
use Rattle.std.proofs.lemmas.List.{take_at, drop_at, reverse-reverse, reverse-append, nil_from_length, replicate_more, length-take-le, length-drop, take-append-drop}
use Rattle.bits.specs.declared.order.BitOrder.{BitOrder}
use Rattle.bits.specs.declared.order.BitOrder.TheVariants.{LeastFirst, MostFirst}
use Rattle.bits.specs.Rows.{turned, low_bits, bit_sum, bits_of, value_of, row, cut, Fit}

pub length-low_bits : (k v : ℕ) → length (low_bits k v) ≡ k
length-low_bits zero v = refl
length-low_bits (suc k) v = ap suc (length-low_bits k (v / 2))

odd_part : (v : ℕ) → cond (eqb (v % 2) 1) 1 0 ≡ v % 2
odd_part v = grind (arith, nat_tests)

pub bit_sum-low_bits : (k v : ℕ) → v < 2 ^ k → bit_sum (low_bits k v) ≡ v
bit_sum-low_bits zero v h = omega arith
bit_sum-low_bits (suc k) v h =
    let r : bit_sum (low_bits k (v / 2)) ≡ v / 2 = bit_sum-low_bits k (v / 2) (omega (arith, pow-suc 2 k)) in
    omega (arith, r, odd_part v)

odd_of : (b : Bool) (n : ℕ) → eqb ((cond b 1 0 + 2 * n) % 2) 1 ≡ b
odd_of true n = eq-eqb _ 1 (omega arith)
odd_of false n = ne_eqb _ 1 (λ e. omega arith)

half_of : (b : Bool) (n : ℕ) → (cond b 1 0 + 2 * n) / 2 ≡ n
half_of true n = omega arith
half_of false n = omega arith

pub low_bits-bit_sum : (bs : List Bool) → low_bits (length bs) (bit_sum bs) ≡ bs
low_bits-bit_sum [] = refl
low_bits-bit_sum (b ∷ bs) = rw (odd_of, half_of) (ap (λ l. b ∷ l) (low_bits-bit_sum bs))

pub bit_sum-append : (xs ys : List Bool) → bit_sum (xs ++ ys) ≡ bit_sum xs + 2 ^ length xs * bit_sum ys
bit_sum-append [] ys = omega arith
bit_sum-append (x ∷ xs) ys =
    let r = bit_sum-append xs ys in
    let p : 2 ^ suc (length xs) * bit_sum ys ≡ 2 * (2 ^ length xs * bit_sum ys) = ap (λ n. n * bit_sum ys) (pow-succ' 2 (length xs)) ∙ mul_assoc 2 (2 ^ length xs) (bit_sum ys) in
    omega arith

cond_lt : (b : Bool) → cond b 1 0 < 2
cond_lt true = omega arith
cond_lt false = omega arith

pub bit_sum_lt : (bs : List Bool) → bit_sum bs < 2 ^ length bs
bit_sum_lt [] = omega arith
bit_sum_lt (b ∷ bs) = omega (arith, bit_sum_lt bs, cond_lt b, pow-suc 2 (length bs))

-- The order of bits: a turn keeps the length and is undone by itself.
length-turned : (o : BitOrder) (bs : List Bool) → length (turned o bs) ≡ length bs
length-turned LeastFirst bs = refl
length-turned MostFirst bs = length-reverse bs

turned-turned : (o : BitOrder) (bs : List Bool) → turned o (turned o bs) ≡ bs
turned-turned LeastFirst bs = refl
turned-turned MostFirst bs = reverse-reverse bs

pub length-bits_of : (o : BitOrder) (k v : ℕ) → length (bits_of o k v) ≡ k
unfolding bits_of
length-bits_of o k v = length-turned o (low_bits k v) ∙ length-low_bits k v

pub value-bits_of : (o : BitOrder) (k v : ℕ) → v < 2 ^ k → value_of o (bits_of o k v) ≡ v
unfolding bits_of value_of
value-bits_of o k v h = ap bit_sum (turned-turned o (low_bits k v)) ∙ bit_sum-low_bits k v h

pub bits_of_value : (o : BitOrder) (k : ℕ) (bs : List Bool) → length bs ≡ k → bits_of o k (value_of o bs) ≡ bs
unfolding bits_of value_of
bits_of_value o k bs e =
    ap (λ n. turned o (low_bits n (bit_sum (turned o bs)))) (sym e ∙ sym (length-turned o bs))
    ∙ ap (turned o) (low_bits-bit_sum (turned o bs)) ∙ turned-turned o bs

pub value_lt : (o : BitOrder) (k : ℕ) (bs : List Bool) → length bs ≡ k → value_of o bs < 2 ^ k
unfolding value_of
value_lt o k bs e = subst (λ n. bit_sum (turned o bs) < 2 ^ n) (length-turned o bs ∙ e) (bit_sum_lt (turned o bs))

-- two numbers of k bits are equal if their bits are
pub same_bits : (o : BitOrder) (k v w : ℕ) → v < 2 ^ k → w < 2 ^ k → bits_of o k v ≡ bits_of o k w → v ≡ w
same_bits o k v w p q e = sym (value-bits_of o k v p) ∙ ap (value_of o) e ∙ value-bits_of o k w q

-- Rows.
pub length-row : (o : BitOrder) (k : ℕ) (vs : List ℕ) → length (row o k vs) ≡ length vs * k
unfolding row
length-row o k [] = omega arith
length-row o k (v ∷ vs) = length-append (bits_of o k v) (row o k vs) ∙ omega (arith, length-bits_of o k v, length-row o k vs, suc-mul (length vs) k)

pub row-append : (o : BitOrder) (k : ℕ) (vs ws : List ℕ) → row o k (vs ++ ws) ≡ row o k vs ++ row o k ws
unfolding row
row-append o k [] ws = refl
row-append o k (v ∷ vs) ws = ap (λ r. bits_of o k v ++ r) (row-append o k vs ws) ∙ sym (append_assoc (bits_of o k v) (row o k vs) (row o k ws))

pub length_cut : (o : BitOrder) (k n : ℕ) (bs : List Bool) → length (cut o k n bs) ≡ n
unfolding cut
length_cut o k zero bs = refl
length_cut o k (suc n) bs = ap suc (length_cut o k n (drop k bs))

-- numbers of k bits, with any bits behind them, are cut out again
pub cut-row : (o : BitOrder) (k : ℕ) (vs : List ℕ) (rest : List Bool) → Fit k vs → cut o k (length vs) (row o k vs ++ rest) ≡ vs
unfolding row cut
cut-row o k [] rest f = refl
cut-row o k (v ∷ vs) rest f =
    let e : (bits_of o k v ++ row o k vs) ++ rest ≡ bits_of o k v ++ (row o k vs ++ rest) = append_assoc (bits_of o k v) (row o k vs) rest in
    let l = length-bits_of o k v in
    rw (e, take_at _ _ k l, drop_at _ _ k l, value-bits_of o k v f.0, cut-row o k vs rest f.1)

-- what is cut from a row of n times k bits is that row
pub row_cut : (o : BitOrder) (k n : ℕ) (bs : List Bool) → length bs ≡ n * k → row o k (cut o k n bs) ≡ bs
unfolding row cut
row_cut o k zero bs h = sym (nil_from_length bs (omega (arith, zero-mul k)))
row_cut o k (suc n) bs h =
    let s : length bs ≡ n * k + k = omega (arith, suc-mul n k) in
    let t : length (take k bs) ≡ k = length-take-le k bs (omega arith) in
    let d : length (drop k bs) ≡ n * k = length-drop k bs ∙ omega arith in
    rw (bits_of_value o k (take k bs) t, row_cut o k n (drop k bs) d) (take-append-drop k bs)

-- The bits of a sum of parts.
low_bits-join : (j k lo hi : ℕ) → lo < 2 ^ j → hi < 2 ^ k → low_bits (j + k) (hi * 2 ^ j + lo) ≡ low_bits j lo ++ low_bits k hi
low_bits-join j k lo hi p q =
    let l : length (low_bits j lo ++ low_bits k hi) ≡ j + k = length-append (low_bits j lo) (low_bits k hi) ∙ omega (arith, length-low_bits j lo, length-low_bits k hi) in
    let a : bit_sum (low_bits j lo ++ low_bits k hi) ≡ bit_sum (low_bits j lo) + 2 ^ length (low_bits j lo) * bit_sum (low_bits k hi) = bit_sum-append (low_bits j lo) (low_bits k hi) in
    let s : bit_sum (low_bits j lo ++ low_bits k hi) ≡ lo + 2 ^ j * hi = rw (bit_sum-low_bits j lo p, bit_sum-low_bits k hi q, length-low_bits j lo) at a in
    let t : bit_sum (low_bits j lo ++ low_bits k hi) ≡ hi * 2 ^ j + lo = s ∙ omega (arith, mul_comm (2 ^ j) hi) in
    sym (ap (λ n. low_bits n (hi * 2 ^ j + lo)) l) ∙ sym (ap (low_bits (length (low_bits j lo ++ low_bits k hi))) t) ∙ low_bits-bit_sum (low_bits j lo ++ low_bits k hi)

pub join-least : (j k lo hi : ℕ) → lo < 2 ^ j → hi < 2 ^ k → bits_of LeastFirst (j + k) (hi * 2 ^ j + lo) ≡ bits_of LeastFirst j lo ++ bits_of LeastFirst k hi
unfolding bits_of
join-least j k lo hi p q = low_bits-join j k lo hi p q

pub join-most : (j k hi lo : ℕ) → hi < 2 ^ j → lo < 2 ^ k → bits_of MostFirst (j + k) (hi * 2 ^ k + lo) ≡ bits_of MostFirst j hi ++ bits_of MostFirst k lo
unfolding bits_of
join-most j k hi lo p q =
    ap (λ n. reverse (low_bits n (hi * 2 ^ k + lo))) (add_comm j k) ∙ ap reverse (low_bits-join k j lo hi q p) ∙ reverse-append (low_bits k lo) (low_bits j hi)

low_bits_zero : (k : ℕ) → low_bits k 0 ≡ replicate k false
low_bits_zero zero = refl
low_bits_zero (suc k) = ap (λ l. false ∷ l) (low_bits_zero k)

reverse-replicate : (k : ℕ) → reverse (replicate k false) ≡ replicate k false
reverse-replicate zero = refl
reverse-replicate (suc k) =
    reverse-append (false ∷ []) (replicate k false) ∙ ap (λ l. l ++ false ∷ []) (reverse-replicate k) ∙ replicate_more k false ∙ ap (λ n. replicate n false) (add-one k)

pub bits_of_zero : (o : BitOrder) (k : ℕ) → bits_of o k 0 ≡ replicate k false
unfolding bits_of
bits_of_zero LeastFirst k = low_bits_zero k
bits_of_zero MostFirst k = ap reverse (low_bits_zero k) ∙ reverse-replicate k

pub bits_of_none : (o : BitOrder) (v : ℕ) → bits_of o 0 v ≡ []
bits_of_none o v = nil_from_length _ (length-bits_of o 0 v)

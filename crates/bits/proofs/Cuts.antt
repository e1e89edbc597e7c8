-- What is cut from a row of bits: in two parts, from its front alone, and from the row of numbers of another width.
use Rattle.std.proofs.Common.{◌≡◌, ℕ, zero, suc, ◌+◌, ◌-◌, ◌*◌, ◌/◌, ◌%◌, ◌<◌, ◌≤◌, min, Bool, false, List, ◌∷◌, ◌++◌, length, take, drop, replicate, sym, refl, ap, ◌∙◌, subst, ⊎_elim, append_assoc, suc-mul, mul_assoc, mul_comm, add-mul, suc-add, zero-add, zero-mul, arith}
use borrow.Rule.Slice.PartMut.{put_mid}
use Rattle.std.proofs.lemmas.Slice.{take-put_mid}
use Rattle.std.proofs.lemmas.Nat.{mul-le}
use Rattle.std.proofs.lemmas.Bool.{cases_lt}
use Rattle.std.proofs.lemmas.Grind.{div_ceil_times}
use Rattle.std.proofs.lemmas.List.{take_at, drop_at, drop-drop, take-append-le, drop-append-le, length-append, length-drop, length-take-le, length-replicate, replicate-append-replicate, take_all, nil_from_length}
use Rattle.bits.specs.declared.order.BitOrder.{BitOrder}
use Rattle.bits.specs.Rows.{bits_of, value_of, row, cut, first, packed, Fit}
use Rattle.bits.specs.Packing.{Repacked}
use Rattle.bits.proofs.Rows.{length-row, length_cut, row-append, cut-row, row_cut, value_lt}
use Rattle.bits.proofs.Firsts.{length-first, first_add, row_first}

pub cut_add : (o : BitOrder) (k m n : ℕ) (bs : List Bool) → cut o k (m + n) bs ≡ cut o k m bs ++ cut o k n (drop (m * k) bs)
unfolding cut
cut_add o k zero n bs = ap (λ i. cut o k i bs) (zero-add n) ∙ ap (λ i. cut o k n (drop i bs)) (sym (zero-mul k))
cut_add o k (suc m) n bs =
    ap (λ i. cut o k i bs) (suc-add m n)
    ∙ ap (λ l. value_of o (take k bs) ∷ l) (
    cut_add o k m n (drop k bs) ∙ ap (λ l. cut o k m (drop k bs) ++ cut o k n l) (drop-drop (m * k) k bs ∙ ap (λ i. drop i bs) (omega (arith, suc-mul m k)))
    )

pub cut-front : (o : BitOrder) (k n : ℕ) (xs ys : List Bool) → n * k ≤ length xs → cut o k n (xs ++ ys) ≡ cut o k n xs
unfolding cut
cut-front o k zero xs ys h = refl
cut-front o k (suc n) xs ys h =
    let s : k ≤ length xs = omega (arith, suc-mul n k) in
    let d : n * k ≤ length (drop k xs) = simp length-drop (omega (arith, suc-mul n k)) in
    ap (λ b. value_of o b ∷ cut o k n (drop k (xs ++ ys))) (take-append-le k xs ys s)
    ∙ ap (λ l. value_of o (take k xs) ∷ cut o k n l) (drop-append-le k xs ys s)
    ∙ ap (λ l. value_of o (take k xs) ∷ l) (cut-front o k n (drop k xs) ys d)

pub cut-append : (o : BitOrder) (k m n : ℕ) (xs ys : List Bool) → length xs ≡ m * k → cut o k (m + n) (xs ++ ys) ≡ cut o k m xs ++ cut o k n ys
cut-append o k m n xs ys e =
    cut_add o k m n (xs ++ ys) ∙ ap (λ l. l ++ cut o k n (drop (m * k) (xs ++ ys))) (cut-front o k m xs ys (omega arith))
    ∙ ap (λ l. cut o k m xs ++ cut o k n l) (drop_at xs ys (m * k) e)

pub take-cut : (o : BitOrder) (k m n : ℕ) (bs : List Bool) → take m (cut o k (m + n) bs) ≡ cut o k m bs
take-cut o k m n bs = ap (take m) (cut_add o k m n bs) ∙ take_at (cut o k m bs) (cut o k n (drop (m * k) bs)) m (length_cut o k m bs)

pub fit_cut : (o : BitOrder) (k n : ℕ) (bs : List Bool) → n * k ≤ length bs → Fit k (cut o k n bs)
unfolding cut
fit_cut o k zero bs h = tt
fit_cut o k (suc n) bs h =
    let s : k ≤ length bs = omega (arith, suc-mul n k) in
    let d : n * k ≤ length (drop k bs) = simp length-drop (omega (arith, suc-mul n k)) in
    (value_lt o k (take k bs) (length-take-le k bs s), fit_cut o k n (drop k bs) d)

-- 0 bits beyond what is cut do not matter, however many numbers of 0 stand behind the last
beyond : (o : BitOrder) (p q n i d : ℕ) (src : List ℕ) → n * q ≤ i * p → cut o q n (row o p (first (i + d) src)) ≡ cut o q n (row o p (first i src))
beyond o p q n i d src h =
    ap (λ l. cut o q n (row o p l)) (first_add i d src) ∙ ap (cut o q n) (row-append o p (first i src) (first d (drop i src)))
    ∙ cut-front o q n (row o p (first i src)) (row o p (first d (drop i src)))
    (subst (λ m. n * q ≤ m) (sym (length-row o p (first i src) ∙ ap (λ m. m * p) (length-first i src))) h)

pub any-first : (o : BitOrder) (p q n i j : ℕ) (src : List ℕ) → n * q ≤ i * p → n * q ≤ j * p → cut o q n (row o p (first i src)) ≡ cut o q n (row o p (first j src))
any-first o p q n i j src hi hj =
    ⊎_elim
    (λ l. let e : i + (j - i) ≡ j = omega arith in sym (beyond o p q n i (j - i) src hi) ∙ ap (λ m. cut o q n (row o p (first m src))) e)
    (λ l. let e : j + (i - j) ≡ i = omega arith in ap (λ m. cut o q n (row o p (first m src))) (sym e) ∙ beyond o p q n j (i - j) src hj)
    (cases_lt i j)

-- Bytes that are filled.
pub row-packed : (o : BitOrder) (b k : ℕ) (ls : List ℕ) → length ls * b ≤ 8 * k → row o 8 (packed o b k ls) ≡ row o b ls ++ replicate (8 * k - length ls * b) false
unfolding packed
row-packed o b k ls h =
    row_cut o 8 k _ (length-append (row o b ls) _ ∙ omega (arith, length-row o b ls, length-replicate (8 * k - length ls * b) false))

pub length-packed : (o : BitOrder) (b k : ℕ) (ls : List ℕ) → length (packed o b k ls) ≡ k
unfolding packed
length-packed o b k ls = length_cut o 8 k _

-- levels come back from their bytes: no other levels have them
pub unique_packed : (o : BitOrder) (b k : ℕ) (ls ms : List ℕ) → length ls * b ≤ 8 * k → length ms ≡ length ls → Fit b ls → Fit b ms → packed o b k ls ≡ packed o b k ms → ls ≡ ms
unique_packed o b k ls ms h l f g e =
    let h2 : length ms * b ≤ 8 * k = subst (λ n. n * b ≤ 8 * k) (sym l) h in
    let r : row o b ls ++ replicate (8 * k - length ls * b) false ≡ row o b ms ++ replicate (8 * k - length ms * b) false =
    sym (row-packed o b k ls h) ∙ ap (row o 8) e ∙ row-packed o b k ms h2 in
    sym (cut-row o b ls _ f) ∙ ap (λ n. cut o b n (row o b ls ++ replicate (8 * k - length ls * b) false)) (sym l) ∙ ap (cut o b (length ms)) r ∙ cut-row o b ms _ g

-- the row of whole groups begins with the filled bytes' row
pub packed-first : (o : BitOrder) (b k i : ℕ) (ls : List ℕ) → length ls * b ≤ 8 * k → length ls ≤ i → k * 8 ≤ i * b → cut o 8 k (row o b (first i ls)) ≡ packed o b k ls
unfolding packed
packed-first o b k i ls h le w =
    let n : ℕ = length ls in
    let x : (i - n) * b + n * b ≡ i * b = sym (add-mul (i - n) n b) ∙ ap (λ m. m * b) (omega arith) in
    let s : (8 * k - n * b) + ((i - n) * b - (8 * k - n * b)) ≡ (i - n) * b = omega arith in
    ap (cut o 8 k) (
    row_first o b i ls le ∙ ap (λ m. row o b ls ++ replicate m false) (sym s)
    ∙ ap (λ l. row o b ls ++ l) (sym (replicate-append-replicate (8 * k - n * b) ((i - n) * b - (8 * k - n * b)) false))
    ∙ sym (append_assoc (row o b ls) (replicate (8 * k - n * b) false) (replicate ((i - n) * b - (8 * k - n * b)) false))
    )
    ∙ cut-front o 8 k (row o b ls ++ replicate (8 * k - n * b) false) _
    (rw length-append (omega (arith, length-row o b ls, length-replicate (8 * k - n * b) false)))

-- One group more is written behind those before.
pub repacked_more : (o : BitOrder) (p q : ℕ) (src out ys : List ℕ) (i j e w : ℕ) → take j out ≡ cut o q j (row o p (first i src)) → j * q ≡ i * p → j ≤ e → e ≤ length out
    → bits_of o (q * p) w ≡ row o p (first q (drop i src)) → ys ≡ cut o q (length (take (e - j) (drop j out))) (bits_of o (q * p) w)
    → take e (put_mid j (e - j) out ys) ≡ cut o q e (row o p (first (i + q) src))
repacked_more o p q src out ys i j e w front even le in' bs y =
    let m : length (take (e - j) (drop j out)) ≡ e - j = length-take-le (e - j) (drop j out) (simp length-drop (omega arith)) in
    let z : ys ≡ cut o q (e - j) (row o p (first q (drop i src))) = y ∙ ap (λ n. cut o q n (bits_of o (q * p) w)) m ∙ ap (cut o q (e - j)) bs in
    let l : length ys ≡ e - j = ap length z ∙ length_cut o q (e - j) (row o p (first q (drop i src))) in
    let s : j + (e - j) ≡ e = omega arith in
    take-put_mid j (e - j) out ys e (omega arith) (omega arith) ∙ ap (λ x. x ++ ys) front ∙ ap (λ x. cut o q j (row o p (first i src)) ++ x) z
    ∙ sym (cut-append o q j (e - j) (row o p (first i src)) (row o p (first q (drop i src))) (length-row o p (first i src) ∙ ap (λ n. n * p) (length-first i src) ∙ sym even))
    ∙ ap (λ n. cut o q n (row o p (first i src) ++ row o p (first q (drop i src)))) s
    ∙ ap (cut o q e) (sym (row-append o p (first i src) (first q (drop i src))) ∙ ap (row o p) (sym (first_add i q src)))

pub length-put_mid : (j k : ℕ) (out ys : List ℕ) → length ys ≡ k → j + k ≤ length out → length (put_mid j k out ys) ≡ length out
length-put_mid j k out ys l h =
    length-append (take j out) (ys ++ drop k (drop j out))
    ∙ omega (arith, length-append ys (drop k (drop j out)), length-drop k (drop j out), length-drop j out, length-take-le j out (omega arith))

-- before a turn, the numbers of the turns before it stand in front
abbrev pub Turned : BitOrder → ℕ → ℕ → List ℕ → List ℕ → ℕ → Type 0
Turned o p q src out t = take (min (t * p) (length out)) out ≡ cut o q (min (t * p) (length out)) (row o p (first (t * q) src))

pub turned_none : (o : BitOrder) (p q : ℕ) (src out : List ℕ) → Turned o p q src out 0
unfolding cut
turned_none o p q src out = let z : min (0 * p) (length out) ≡ 0 = omega arith in rw z refl

pub turned_more : (o : BitOrder) (p q : ℕ) (src out ys : List ℕ) (t e w : ℕ) → Turned o p q src out t → t * p < length out → e ≡ min (t * p + p) (length out)
    → length ys ≡ length (take (e - t * p) (drop (t * p) out)) → bits_of o (q * p) w ≡ row o p (first q (drop (t * q) src))
    → ys ≡ cut o q (length (take (e - t * p) (drop (t * p) out))) (bits_of o (q * p) w) → Turned o p q src (put_mid (t * p) (e - t * p) out ys) (t + 1)
turned_more o p q src out ys t e w turned lt is l bs y =
    let j : ℕ = t * p in
    let front : take j out ≡ cut o q j (row o p (first (t * q) src)) =
    subst (λ m. take m out ≡ cut o q m (row o p (first (t * q) src))) (let m : min j (length out) ≡ j = omega arith in m) turned in
    let m : length (take (e - j) (drop j out)) ≡ e - j = length-take-le (e - j) (drop j out) (simp length-drop (omega arith)) in
    let n : length (put_mid j (e - j) out ys) ≡ length out = length-put_mid j (e - j) out ys (l ∙ m) (omega arith) in
    let even : j * q ≡ (t * q) * p = mul_assoc t p q ∙ ap (λ x. t * x) (mul_comm p q) ∙ sym (mul_assoc t q p) in
    let more : take e (put_mid j (e - j) out ys) ≡ cut o q e (row o p (first (t * q + q) src)) =
    repacked_more o p q src out ys (t * q) j e w front even (omega arith) (omega arith) bs y in
    let up : t * q + q ≡ (t + 1) * q = omega (arith, add-mul t 1 q) in
    let at : e ≡ min ((t + 1) * p) (length (put_mid j (e - j) out ys)) = omega (arith, add-mul t 1 p) in
    subst (λ x. take x (put_mid j (e - j) out ys) ≡ cut o q x (row o p (first ((t + 1) * q) src))) at (more ∙ ap (λ x. cut o q e (row o p (first x src))) up)

pub turned_all : (o : BitOrder) (p q : ℕ) (src out : List ℕ) (t n : ℕ) → Turned o p q src out t → length out ≤ t * p → length out ≡ n → Repacked o p q src n out
turned_all o p q src out t n turned whole e k h =
    let j : ℕ = length out in
    let front : take j out ≡ cut o q j (row o p (first (t * q) src)) =
    subst (λ m. take m out ≡ cut o q m (row o p (first (t * q) src))) (let m : min (t * p) j ≡ j = omega arith in m) turned in
    let le : j * q ≤ (t * q) * p = omega (arith, mul-le j q (t * p) q whole (omega arith), mul_assoc t p q ∙ ap (λ x. t * x) (mul_comm p q) ∙ sym (mul_assoc t q p)) in
    let h2 : j * q ≤ k * p = subst (λ m. m * q ≤ k * p) (sym e) h in
    sym (take_all j out (omega arith)) ∙ front ∙ any-first o p q j (t * q) k src le h2 ∙ ap (λ m. cut o q m (row o p (first k src))) e

pub repacked_empty : (o : BitOrder) (p q : ℕ) (src out : List ℕ) → length out ≡ 0 → Repacked o p q src (length out) out
unfolding cut
repacked_empty o p q src out e k h = nil_from_length out e ∙ ap (λ m. cut o q m (row o p (first k src))) (sym e)

pub some_bits : (p n : ℕ) → (p ≡ 0 → n ≡ 0) → 0 < n → 0 < p
some_bits zero n h l = absurd (omega (arith, h refl))
some_bits (suc p) n h l = omega arith

pub fit_packed : (o : BitOrder) (b k : ℕ) (ls : List ℕ) → length ls * b ≤ 8 * k → Fit 8 (packed o b k ls)
unfolding packed
fit_packed o b k ls h =
    fit_cut o 8 k _ (rw length-append (omega (arith, length-row o b ls, length-replicate (8 * k - length ls * b) false)))

-- a turn begins before the end, and the last one reaches it
pub turn_begins : (t n p : ℕ) → 0 < p → t < n / p + min 1 (n % p) → t * p < n
turn_begins t n p h l = omega (arith, (div_ceil_times n p h).1, mul-le (t + 1) p (n / p + min 1 (n % p)) p (omega arith) (omega arith), add-mul t 1 p)

pub turns_reach : (t n p : ℕ) → 0 < p → t ≡ n / p + min 1 (n % p) → n ≤ t * p
turns_reach t n p h e = subst (λ m. n ≤ m * p) (sym e) (div_ceil_times n p h).0

-- The total order of data is the order of their ranks: negative below positive, and within a sign as the bits
-- below it rise or fall.
use Rattle.std.proofs.Common.{◌≡◌, ℕ, zero, suc, ◌+◌, ◌-◌, ◌*◌, ◌/◌, ◌%◌, ◌^◌, ◌<◌, ◌≤◌, bit_and, bit_or, bit_xor, Bool, true, false, cond, not, eqb, ltb, pos, neg_ℤ, sym, refl, ap, ◌∙◌, subst, ⊎_elim, leb, mod-eq_of_lt, pow-suc, arith}
use native.Mathlib.Nat.{div-eq_of_lt, div-eq_of_lt-le}
use Rattle.std.specs.Int.Bits.{and_zero_l, or_zero_l, or_shifted_r, xor_shifted, xor_add_and}
use lib.Signed.{lt_z}
use Rattle.std.proofs.lemmas.Nat.{pow_pos, mod-pow-add, mod_below, and_comm, xor_comm, and_mask, shr_split}
use Rattle.std.proofs.lemmas.Bool.{cases_Bool, cases_lt, eq-eqb, ne_eqb, lt-ltb, le-ltb, cases_eq}
use Rattle.ieee.specs.Formats.{Format, Datum, finite, infinite, nan, size, quiet, payload, datum_of, datum, negative, biased, trailing, is_nan}
use Rattle.ieee.specs.TotalOrder.{total_order, above, rank}
use Rattle.ieee.proofs.Sizes.{low, low_exponent, sizes_order, nans_rise, nans_fall}

-- ---- signed sizes

negatives : (m n : ℕ) → lt_z (neg_ℤ (pos m)) (neg_ℤ (pos n)) ≡ ltb n m
negatives zero zero = refl
negatives zero (suc n) = sym (le-ltb (suc n) 0 (omega arith))
negatives (suc m) zero = sym (lt-ltb 0 (suc m) (omega arith))
negatives (suc m) (suc n) =
    ⊎_elim (λ l. lt-ltb n m l ∙ sym (lt-ltb (suc n) (suc m) (omega arith))) (λ l. le-ltb n m l ∙ sym (le-ltb (suc n) (suc m) (omega arith))) (cases_lt n m)

positive_above : (m n : ℕ) → lt_z (pos m) (neg_ℤ (pos n)) ≡ false
positive_above m zero = le-ltb m 0 (omega arith)
positive_above m (suc n) = refl

-- of two numbers of one sign, in order unless the second is less
one_sign : (m n : ℕ) → not (cond (ltb m n) true (cond (ltb n m) false true)) ≡ ltb n m
one_sign m n =
    ⊎_elim
    (λ l. ap (λ b. not (cond b true (cond (ltb n m) false true))) (lt-ltb m n l) ∙ sym (le-ltb n m (omega arith)))
    (λ l. ap (λ b. not (cond b true (cond (ltb n m) false true))) (le-ltb m n l)
    ∙ ⊎_elim (λ t. ap (λ b. not (cond b false true)) t ∙ sym t) (λ t. ap (λ b. not (cond b false true)) t ∙ sym t) (cases_Bool (ltb n m)))
    (cases_lt m n)

-- ---- what a pattern's fields make of it

data Shape (f : Format) (s : Bool) (e t : ℕ) : Datum → Type 0 where
  a_number : e < 2 ^ f.exponent - 1 → Shape f s e t (finite s (size f e t))
  an_infinity : e ≡ 2 ^ f.exponent - 1 → t ≡ 0 → Shape f s e t (infinite s)
  a_nan : e ≡ 2 ^ f.exponent - 1 → 0 < t → Shape f s e t (nan s (quiet f t) (payload f t))

shape : (f : Format) (s : Bool) (e t : ℕ) → e < 2 ^ f.exponent → Shape f s e t (datum_of f s e t)
shape f s e t h =
    let ones : ℕ = 2 ^ f.exponent - 1 in
    let top : Datum = cond (eqb t 0) (infinite s) (nan s (quiet f t) (payload f t)) in
    let whole : Bool → Datum = λ b. cond b top (finite s (size f e t)) in
    ⊎_elim
    (λ z.
    let at : datum_of f s e t ≡ top = ap whole (eq-eqb e ones z) in
    ⊎_elim
    (λ y. subst (Shape f s e t) (sym (at ∙ ap (λ b. cond b (infinite s) (nan s (quiet f t) (payload f t))) (eq-eqb t 0 y))) (an_infinity z y))
    (λ y. subst (Shape f s e t) (sym (at ∙ ap (λ b. cond b (infinite s) (nan s (quiet f t) (payload f t))) (ne_eqb t 0 y))) (a_nan z (omega arith)))
    (cases_eq t 0))
    (λ z. subst (Shape f s e t) (sym (ap whole (ne_eqb e ones z))) (a_number (omega arith)))
    (cases_eq e ones)

-- ---- the negation of a sign, as a mask

none_of : (w m : ℕ) → w < 2 ^ 64 → (w + 0) % 2 ^ 64 ≡ 0 → bit_and w m ≡ 0
none_of w m few away =
    let none : w ≡ 0 = omega arith in
    ap (λ v. bit_and v m) none ∙ and_zero_l m

all_of : (w m : ℕ) → w < 2 ^ 64 → m < 2 ^ 64 → (w + 1) % 2 ^ 64 ≡ 0 → bit_and w m ≡ m
all_of w m few fits away =
    let ones : w ≡ 2 ^ 64 - 1 = omega arith in
    ap (λ v. bit_and v m) ones ∙ and_comm (2 ^ 64 - 1) m ∙ and_mask m 64 ∙ mod-eq_of_lt fits

module _ (f : Format) (some : 0 < f.significand) where
  -- the place of infinity, past every finite number and before every NaN
  top_low : (e t d u : ℕ) → t < 2 ^ f.significand → e < d → low f e t < low f d u
  top_low e t d u h l = low_exponent f e t d u h l

  same_top : (e t d u : ℕ) → e ≡ d → ltb (low f e t) (low f d u) ≡ ltb t u
  same_top e t d u z =
      let p : e * 2 ^ f.significand ≡ d * 2 ^ f.significand = ap (λ n. n * 2 ^ f.significand) z in
      ⊎_elim (λ l. lt-ltb (low f e t) (low f d u) (omega arith) ∙ sym (lt-ltb t u l))
      (λ l. le-ltb (low f e t) (low f d u) (omega arith) ∙ sym (le-ltb t u l)) (cases_lt t u)

  rise : (e t d u : ℕ) (x y : Datum) → t < 2 ^ f.significand → u < 2 ^ f.significand → Shape f false e t x → Shape f false d u y
      → not (total_order x y) ≡ ltb (low f d u) (low f e t)
  rise e t d u x y ht hu (a_number h) (a_number k) = one_sign (size f e t) (size f d u) ∙ sizes_order f d u e t hu ht
  rise e t d u x y ht hu (a_number h) (an_infinity k z) = sym (le-ltb (low f d u) (low f e t) (omega (arith, top_low e t d u ht (omega arith))))
  rise e t d u x y ht hu (a_number h) (a_nan k z) = sym (le-ltb (low f d u) (low f e t) (omega (arith, top_low e t d u ht (omega arith))))
  rise e t d u x y ht hu (an_infinity h w) (a_number k) = sym (lt-ltb (low f d u) (low f e t) (top_low d u e t hu (omega arith)))
  rise e t d u x y ht hu (an_infinity h w) (an_infinity k z) = sym (same_top d u e t (k ∙ sym h) ∙ le-ltb u t (omega arith))
  rise e t d u x y ht hu (an_infinity h w) (a_nan k z) = sym (same_top d u e t (k ∙ sym h) ∙ le-ltb u t (omega arith))
  rise e t d u x y ht hu (a_nan h w) (a_number k) = sym (lt-ltb (low f d u) (low f e t) (top_low d u e t hu (omega arith)))
  rise e t d u x y ht hu (a_nan h w) (an_infinity k z) = sym (same_top d u e t (k ∙ sym h) ∙ lt-ltb u t (omega arith))
  rise e t d u x y ht hu (a_nan h w) (a_nan k z) = nans_rise f some t u ht hu ∙ sym (same_top d u e t (k ∙ sym h))

  fall : (e t d u : ℕ) (x y : Datum) → t < 2 ^ f.significand → u < 2 ^ f.significand → Shape f true e t x → Shape f true d u y
      → not (total_order x y) ≡ ltb (low f e t) (low f d u)
  fall e t d u x y ht hu (a_number h) (a_number k) =
      let m : ℕ = size f e t in
      let n : ℕ = size f d u in
      ap (λ b. not (cond b true (cond (lt_z (neg_ℤ (pos n)) (neg_ℤ (pos m))) false true))) (negatives m n)
      ∙ ap (λ b. not (cond (ltb n m) true (cond b false true))) (negatives n m) ∙ one_sign n m ∙ sizes_order f e t d u ht hu
  fall e t d u x y ht hu (a_number h) (an_infinity k z) = sym (lt-ltb (low f e t) (low f d u) (top_low e t d u ht (omega arith)))
  fall e t d u x y ht hu (a_number h) (a_nan k z) = sym (lt-ltb (low f e t) (low f d u) (top_low e t d u ht (omega arith)))
  fall e t d u x y ht hu (an_infinity h w) (a_number k) = sym (le-ltb (low f e t) (low f d u) (omega (arith, top_low d u e t hu (omega arith))))
  fall e t d u x y ht hu (an_infinity h w) (an_infinity k z) = sym (same_top e t d u (h ∙ sym k) ∙ le-ltb t u (omega arith))
  fall e t d u x y ht hu (an_infinity h w) (a_nan k z) = sym (same_top e t d u (h ∙ sym k) ∙ lt-ltb t u (omega arith))
  fall e t d u x y ht hu (a_nan h w) (a_number k) = sym (le-ltb (low f e t) (low f d u) (omega (arith, top_low d u e t hu (omega arith))))
  fall e t d u x y ht hu (a_nan h w) (an_infinity k z) = sym (same_top e t d u (h ∙ sym k) ∙ le-ltb t u (omega arith))
  fall e t d u x y ht hu (a_nan h w) (a_nan k z) = nans_fall f some t u ht hu ∙ sym (same_top e t d u (h ∙ sym k))

  -- a positive datum comes after every negative one
  after : (e t d u : ℕ) (x y : Datum) → Shape f false e t x → Shape f true d u y → not (total_order x y) ≡ true
  after e t d u x y (a_number h) (a_number k) =
      ap (λ b. not (cond b true (cond (lt_z (neg_ℤ (pos (size f d u))) (pos (size f e t))) false false))) (positive_above (size f e t) (size f d u))
      ∙ ⊎_elim (λ q. ap (λ b. not (cond b false false)) q) (λ q. ap (λ b. not (cond b false false)) q)
      (cases_Bool (lt_z (neg_ℤ (pos (size f d u))) (pos (size f e t))))
  after e t d u x y (a_number h) (an_infinity k z) = refl
  after e t d u x y (a_number h) (a_nan k z) = refl
  after e t d u x y (an_infinity h w) (a_number k) = refl
  after e t d u x y (an_infinity h w) (an_infinity k z) = refl
  after e t d u x y (an_infinity h w) (a_nan k z) = refl
  after e t d u x y (a_nan h w) (a_number k) = refl
  after e t d u x y (a_nan h w) (an_infinity k z) = refl
  after e t d u x y (a_nan h w) (a_nan k z) = refl

  before : (e t d u : ℕ) (x y : Datum) → Shape f true e t x → Shape f false d u y → not (total_order x y) ≡ false
  before e t d u x y (a_number h) (a_number k) =
      ap (λ b. not (cond (lt_z (neg_ℤ (pos (size f e t))) (pos (size f d u))) true (cond b false true))) (positive_above (size f d u) (size f e t))
      ∙ ⊎_elim (λ q. ap (λ b. not (cond b true true)) q) (λ q. ap (λ b. not (cond b true true)) q)
      (cases_Bool (lt_z (neg_ℤ (pos (size f e t))) (pos (size f d u))))
  before e t d u x y (a_number h) (an_infinity k z) = refl
  before e t d u x y (a_number h) (a_nan k z) = refl
  before e t d u x y (an_infinity h w) (a_number k) = refl
  before e t d u x y (an_infinity h w) (an_infinity k z) = refl
  before e t d u x y (an_infinity h w) (a_nan k z) = refl
  before e t d u x y (a_nan h w) (a_number k) = refl
  before e t d u x y (a_nan h w) (an_infinity k z) = refl
  before e t d u x y (a_nan h w) (a_nan k z) = refl

  -- ---- ranks

  abbrev span : ℕ
  span = 2 ^ (f.exponent + f.significand)

  abbrev rank_of : Bool → ℕ → ℕ
  rank_of s l = cond s (span - 1 - l) (span + l)

  compared : (s r : Bool) (e t d u : ℕ) → e < 2 ^ f.exponent → t < 2 ^ f.significand → d < 2 ^ f.exponent → u < 2 ^ f.significand
      → low f e t < span → low f d u < span
      → not (total_order (datum_of f s e t) (datum_of f r d u)) ≡ ltb (rank_of r (low f d u)) (rank_of s (low f e t))
  compared false false e t d u he ht hd hu a b =
      rise e t d u (datum_of f false e t) (datum_of f false d u) ht hu (shape f false e t he) (shape f false d u hd)
      ∙ ⊎_elim (λ l. lt-ltb (low f d u) (low f e t) l ∙ sym (lt-ltb (span + low f d u) (span + low f e t) (omega arith)))
      (λ l. le-ltb (low f d u) (low f e t) l ∙ sym (le-ltb (span + low f d u) (span + low f e t) (omega arith)))
      (cases_lt (low f d u) (low f e t))
  compared true true e t d u he ht hd hu a b =
      fall e t d u (datum_of f true e t) (datum_of f true d u) ht hu (shape f true e t he) (shape f true d u hd)
      ∙ ⊎_elim (λ l. lt-ltb (low f e t) (low f d u) l ∙ sym (lt-ltb (span - 1 - low f d u) (span - 1 - low f e t) (omega arith)))
      (λ l. le-ltb (low f e t) (low f d u) l ∙ sym (le-ltb (span - 1 - low f d u) (span - 1 - low f e t) (omega arith)))
      (cases_lt (low f e t) (low f d u))
  compared false true e t d u he ht hd hu a b =
      after e t d u (datum_of f false e t) (datum_of f true d u) (shape f false e t he) (shape f true d u hd)
      ∙ sym (lt-ltb (span - 1 - low f d u) (span + low f e t) (omega arith))
  compared true false e t d u he ht hd hu a b =
      before e t d u (datum_of f true e t) (datum_of f false d u) (shape f true e t he) (shape f false d u hd)
      ∙ sym (le-ltb (span + low f d u) (span - 1 - low f e t) (omega arith))

  low_is : (n : ℕ) → n % span ≡ low f (biased f n) (trailing f n)
  low_is n = mod-pow-add n f.exponent f.significand

  low_few : (n : ℕ) → low f (biased f n) (trailing f n) < span
  low_few n = omega (arith, low_is n, mod_below n span (pow_pos (f.exponent + f.significand)))

  -- comparing ranks is the total order
  pub above-rank : (a b : ℕ) → above f a b ≡ ltb (rank f b) (rank f a)
  above-rank a b =
      compared (negative f a) (negative f b) (biased f a) (trailing f a) (biased f b) (trailing f b)
      (mod_below (a / 2 ^ f.significand) (2 ^ f.exponent) (pow_pos f.exponent)) (mod_below a (2 ^ f.significand) (pow_pos f.significand))
      (mod_below (b / 2 ^ f.significand) (2 ^ f.exponent) (pow_pos f.exponent)) (mod_below b (2 ^ f.significand) (pow_pos f.significand))
      (low_few a) (low_few b)
      ∙ ap (λ l. ltb (rank_of (negative f b) l) (rank_of (negative f a) (low f (biased f a) (trailing f a)))) (sym (low_is b))
      ∙ ap (λ l. ltb (rank f b) (rank_of (negative f a) l)) (sym (low_is a))

  -- the rank by the quotient, which is the sign
  rank-by : (n q : ℕ) → n / span ≡ q → rank f n ≡ cond (leb 1 q) (span - 1 - n % span) (span + n % span)
  rank-by n q e = ap (λ m. cond (leb 1 m) (span - 1 - n % span) (span + n % span)) e

  -- the sign and the bits of a mask below it flipped
  abbrev flipped : ℕ → ℕ → ℕ
  flipped n m = bit_xor n (bit_or m span)

  -- a clear sign: flipping it alone adds it
  rank_positive : (n : ℕ) → n < span → flipped n 0 ≡ rank f n
  rank_positive n h =
      let k : ℕ = f.exponent + f.significand in
      let clear : n / span ≡ 0 = div-eq_of_lt h in
      let one : 1 * 2 ^ k ≡ span = omega arith in
      let added : bit_xor span n ≡ span + n = subst (λ m. bit_xor m n ≡ m + n) one (xor_shifted 1 k n h) in
      ap (bit_xor n) (or_zero_l span) ∙ xor_comm n span ∙ added ∙ ap (λ m. span + m) (sym (mod-eq_of_lt h)) ∙ sym (rank-by n 0 clear)

  -- a set sign: flipping all bits takes the number from their sum
  rank_negative : (n : ℕ) → span ≤ n → n < span + span → n / span ≡ 1 → flipped n (span - 1) ≡ rank f n
  rank_negative n h l set =
      let k : ℕ = f.exponent + f.significand in
      let one : 1 * 2 ^ k ≡ span = omega arith in
      let most : span - 1 < span = omega (arith, pow_pos k) in
      let ones : 2 ^ suc k - 1 ≡ span + (span - 1) = omega (arith, pow-suc 2 k, pow_pos k) in
      let all : bit_or (span - 1) span ≡ 2 ^ suc k - 1 = subst (λ m. bit_or (span - 1) m ≡ m + (span - 1)) one (or_shifted_r 1 k (span - 1) most) ∙ sym ones in
      let kept : bit_and n (2 ^ suc k - 1) ≡ n = and_mask n (suc k) ∙ mod-eq_of_lt (omega (arith, pow-suc 2 k)) in
      let below : n % span ≡ n - span = omega (arith, shr_split n k, ap (λ m. m * span) set) in
      ap (bit_xor n) all ∙ omega (arith, ones, kept, below, xor_add_and n (2 ^ suc k - 1), rank-by n 1 set)

  -- the mask below the sign by w, the negation of the sign
  rank_masked : (n w : ℕ) → n < span + span → span < 2 ^ 64 → w < 2 ^ 64 → (w + n / span) % 2 ^ 64 ≡ 0
      → flipped n (bit_and w (span - 1)) ≡ rank f n
  rank_masked n w h fits few away =
      ⊎_elim
      (λ l.
      let clear : n / span ≡ 0 = div-eq_of_lt l in
      ap (flipped n) (none_of w (span - 1) few (ap (λ q. (w + q) % 2 ^ 64) (sym clear) ∙ away)) ∙ rank_positive n l)
      (λ l.
      let set : n / span ≡ 1 = div-eq_of_lt-le span (omega arith) (omega arith) in
      ap (flipped n) (all_of w (span - 1) few (omega arith) (ap (λ q. (w + q) % 2 ^ 64) (sym set) ∙ away)) ∙ rank_negative n l h set)
      (cases_lt n span)

  -- the rank by the bits of a pattern, where s is the weight of the sign
  pub rank_bits : (n s w : ℕ) → s ≡ span → n < s + s → s < 2 ^ 64 → w < 2 ^ 64 → (w + n / s) % 2 ^ 64 ≡ 0
      → bit_xor n (bit_or (bit_and w (s - 1)) s) ≡ rank f n
  rank_bits n s w e =
      subst (λ m. n < m + m → m < 2 ^ 64 → w < 2 ^ 64 → (w + n / m) % 2 ^ 64 ≡ 0 → bit_xor n (bit_or (bit_and w (m - 1)) m) ≡ rank f n) (sym e)
      (rank_masked n w)

  nan_by : (s : Bool) (e t : ℕ) (x : Datum) → t < 2 ^ f.significand → Shape f s e t x
      → is_nan x ≡ ltb (low f (2 ^ f.exponent - 1) 0) (low f e t)
  nan_by s e t x ht (a_number h) = sym (le-ltb (low f (2 ^ f.exponent - 1) 0) (low f e t) (omega (arith, top_low e t (2 ^ f.exponent - 1) 0 ht h)))
  nan_by s e t x ht (an_infinity h z) = sym (same_top (2 ^ f.exponent - 1) 0 e t (sym h) ∙ le-ltb 0 t (omega arith))
  nan_by s e t x ht (a_nan h z) = sym (same_top (2 ^ f.exponent - 1) 0 e t (sym h) ∙ lt-ltb 0 t z)

  -- NaN is what lies past infinity, below the sign
  pub nan_past : (n : ℕ) → is_nan (datum f n) ≡ ltb (low f (2 ^ f.exponent - 1) 0) (n % span)
  nan_past n =
      nan_by (negative f n) (biased f n) (trailing f n) (datum f n) (mod_below n (2 ^ f.significand) (pow_pos f.significand))
      (shape f (negative f n) (biased f n) (trailing f n) (mod_below (n / 2 ^ f.significand) (2 ^ f.exponent) (pow_pos f.exponent)))
      ∙ ap (λ l. ltb (low f (2 ^ f.exponent - 1) 0) l) (sym (low_is n))

  pub by_ranks : (a b x y : ℕ) → x ≡ rank f a → y ≡ rank f b → ltb y x ≡ above f a b
  by_ranks a b x y p q = ap (λ n. ltb n x) q ∙ ap (λ n. ltb (rank f b) n) p ∙ sym (above-rank a b)

  pub by_place : (n t l : ℕ) → t ≡ low f (2 ^ f.exponent - 1) 0 → l ≡ n % span → ltb t l ≡ is_nan (datum f n)
  by_place n t l p q = ap (λ m. ltb m l) p ∙ ap (λ m. ltb (low f (2 ^ f.exponent - 1) 0) m) q ∙ sym (nan_past n)

-- Counting powers of two gives the fewest bits that write a number.
use Rattle.std.proofs.Common.{◌≡◌, ℕ, zero, suc, ◌+◌, ◌^◌, ◌<◌, ◌≤◌, cond, sym, refl, ap, ◌∙◌, subst, ⊎_elim, zero-add, arith}
use native.Mathlib.Nat.{pow-le-pow_right}
use Rattle.std.proofs.lemmas.Bool.{cases_lt, le-leb, lt-leb}
use Rattle.level_coder.specs.Widths.{BitLength}
use Rattle.pages.specs.Widths.{powers, bit_length}

pow_mono : (i j : ℕ) → i ≤ j → 2 ^ i ≤ 2 ^ j
pow_mono i j h = pow-le-pow_right (let z : 0 < 2 = omega arith in z) h

-- from 2 ^ k on all k powers are counted
all_powers : (k n : ℕ) → 2 ^ k ≤ n → powers k n ≡ k
all_powers zero n h = refl
all_powers (suc k) n h =
    let m : 2 ^ k ≤ 2 ^ suc k = pow_mono k (suc k) (omega arith) in
    let l : 2 ^ k ≤ n = omega arith in
    omega (arith, ap {B = ℕ} (λ t. cond t 1 0) (le-leb (2 ^ k) n l), all_powers k n l)

-- a number that a power exceeds has fewer bits than any power that exceeds it
counted : (k n : ℕ) → n < 2 ^ k → BitLength n (powers k n)
counted zero n h = record { enough = h; fewest = λ j e. omega arith }
counted (suc k) n h =
    ⊎_elim
    (λ l.
    let same : powers (suc k) n ≡ powers k n = ap (λ t. cond t 1 0 + powers k n) (lt-leb (2 ^ k) n l) ∙ zero-add (powers k n) in
    subst (BitLength n) (sym same) (counted k n l))
    (λ l.
    let full : powers (suc k) n ≡ suc k = omega (arith, ap {B = ℕ} (λ t. cond t 1 0) (le-leb (2 ^ k) n l), all_powers k n l) in
    subst (BitLength n) (sym full)
    record {
      enough = h;
      fewest = λ j e. ⊎_elim (λ s. s) (λ s. absurd (omega (arith, pow_mono j k (omega arith)))) (cases_lt k j);
    })
    (cases_lt n (2 ^ k))

pub one_length : (n r : ℕ) → n < 256 → BitLength n r → r ≡ bit_length n
one_length n r h b =
    let c : BitLength n (bit_length n) = counted 8 n h in
    omega (arith, b.fewest (bit_length n) c.enough, c.fewest r b.enough)

pub four_bits : (n : ℕ) → n ≤ 15 → bit_length n ≤ 4
four_bits n h = (counted 8 n (omega arith)).fewest 4 (omega arith)

-- a maximum level is below the number of levels that its width writes
pub wide_enough : (n : ℕ) → n ≤ 15 → n < 2 ^ bit_length n
wide_enough n h = (counted 8 n (omega arith)).enough

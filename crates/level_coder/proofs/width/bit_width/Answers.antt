-- The leading zeros leave the bits of which the first is 1.
use Rattle.std.proofs.Common.{◌≡◌, ℕ, suc, ◌+◌, ◌*◌, ◌^◌, ◌<◌, ◌≤◌, subst, ⊎_elim, pow-suc, arith}
use native.Mathlib.Nat.{pow-le-pow_right}
use lib.Count.{count_leading_zeros}
use Rattle.std.proofs.lemmas.Nat.{leading_length}
use Rattle.std.proofs.lemmas.Bool.{cases_lt}
use Rattle.level_coder.specs.Widths.{BitLength}
use Rattle.level_coder.proofs.width.bit_width.Goals as goal

length_is : (a r : ℕ) → a < 2 ^ 8 → count_leading_zeros 8 a + r ≡ 8 → BitLength a r
length_is a r h e =
    let l = leading_length 8 a h in
    let m : ℕ = l.0 in
    let same : m ≡ r = omega (arith, l.1) in
    let top : 2 ^ r ≤ 2 * a + 1 = subst (λ k. 2 ^ k ≤ 2 * a + 1) same l.3 in
    record {
      enough = subst (λ k. a < 2 ^ k) same l.2;
      fewest = λ k b. ⊎_elim (λ lt. let up : 2 ^ suc k ≤ 2 ^ r = pow-le-pow_right (omega arith) (omega arith) in absurd (omega (arith, pow-suc 2 k, up))) (λ le. le) (cases_lt k r);
    }

pub returns : goal.returns
returns c = length_is c.args.max c.bits_behind.result c.ranges.max.fits c.bits_behind.ensures

use Rattle.std.proofs.Common.{◌*◌, ◌%◌, ◌^◌, ◌<◌, ℕ, Bool, ltb, Decides, refl, subst, arith}
use Rattle.std.specs.List.{list_all}
use Rattle.std.proofs.ByRecursion.{Decides-by_and}
use Rattle.std.proofs.lemmas.Bool.Decides.{Decides-at, Decides-ltb}
use Rattle.std.proofs.lemmas.Nat.{one_shl}
use Rattle.bits.proofs.packing.fits.Goals as goal

pub returns : goal.returns
returns c =
    let b = c.args.b in
    let limit = 1 * 2 ^ b % 256 in
    let test : ℕ → Bool = λ n. ltb n limit in
    let each : (n : ℕ) → Decides (test n) (n < 2 ^ b) = λ n. subst (λ m. Decides (ltb n limit) (n < m)) (one_shl b 8 (omega arith)) (Decides-ltb n limit) in
    Decides-at _ _ c.are_below.ensures (Decides-by_and test (λ n. n < 2 ^ b) (list_all test) each refl (λ _ _. refl) c.args.numbers.now)

use Rattle.std.proofs.Common.{ℕ, ◌*◌, ◌≤◌, length, ◌∙◌, mul_assoc, arith}
use Rattle.bits.specs.Packing.{groups}
use Rattle.bits.proofs.Cuts.{packed-first}
use Rattle.bits.proofs.packing.fill.Goals as goal

pub returns : goal.returns
returns c =
    let n : ℕ = length c.args.levels.now in
    let w : length c.args.out.now * 8 ≤ (8 * groups n) * c.args.b = omega (arith, mul_assoc 8 (groups n) c.args.b) in
    c.repack.ensures (8 * groups n) w ∙ packed-first c.args.order c.args.b (length c.args.out.now) (8 * groups n) c.args.levels.now c.requires.room.holds (omega arith) w

use Rattle.std.proofs.Common.{length, ap, arith}
use Rattle.intake.proofs.Weights.{lengths_more}
use Rattle.intake.proofs.values.sum_of_lengths.Goals as goal

pub loop-value-preserved : goal.loop-value-preserved
loop-value-preserved g c =
    let more = lengths_more g.V.ValueOf.bytes c.args.values.now c.loop-value.value-index c.loop-value.sum c.value-item.result c.loop-value-test.true c.value-item.is c.loop-value.invariant in
    omega (arith, more, c.saturating_add.ensures, c.saturating_add-sum.ensures, ap length c.as_bytes.ensures)

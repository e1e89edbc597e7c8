use Rattle.std.proofs.Common.{map}
use Rattle.intake.proofs.Weights.{LengthsSoFar}
use Rattle.intake.proofs.values.sum_of_lengths.Given as goal

abbrev pub invariant-loop-value : goal.invariant-loop-value
invariant-loop-value g l = LengthsSoFar (map g.V.ValueOf.bytes l.values) l.value-index l.sum

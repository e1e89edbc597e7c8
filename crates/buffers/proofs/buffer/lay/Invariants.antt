use Rattle.std.proofs.Common.{map}
use Rattle.buffers.proofs.Laying.{LaidSoFar}
use Rattle.buffers.proofs.buffer.lay.Given as goal

abbrev pub invariant-loop-value : goal.invariant-loop-value
invariant-loop-value g l = LaidSoFar l.width (map g.V.ValueOf.bytes l.values) l.value-index l.at l.out

use Rattle.runs.proofs.Playing.{SoFar}
use Rattle.runs.proofs.replaying.play_all.Given as goal

abbrev pub invariant-loop-at : goal.invariant-loop-at
invariant-loop-at g l = SoFar g.V.ValueOf.bytes l.initial.chunk.state l.initial.scratch l.initial.calls l.calls l.at l.chunk.state l.scratch

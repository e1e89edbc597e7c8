use Rattle.rebuild.proofs.Laying.{LaidSoFar}
use Rattle.rebuild.proofs.calls.lay_calls.Given as goal

abbrev pub invariant-loop-at : goal.invariant-loop-at
invariant-loop-at l = LaidSoFar l.holds l.initial.calls l.calls l.at

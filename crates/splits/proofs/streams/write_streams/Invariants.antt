use Rattle.splits.proofs.Writes.{Written}
use Rattle.splits.proofs.streams.write_streams.Given as goal

abbrev pub invariant-loop-j : goal.invariant-loop-j
invariant-loop-j l = Written l.n l.k l.values l.initial.out l.out l.j

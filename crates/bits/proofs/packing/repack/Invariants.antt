use Rattle.bits.proofs.Cuts.{Turned}
use Rattle.bits.proofs.packing.repack.Given as goal

abbrev pub invariant-loop-turn : goal.invariant-loop-turn
invariant-loop-turn l = Turned l.order l.p l.q l.src l.out l.turn

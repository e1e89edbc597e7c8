use Rattle.std.proofs.Common.{◌≡◌, ◌*◌, ◌^◌, ◌<◌, drop}
use Rattle.bits.specs.Rows.{bits_of, row, first}
use Rattle.bits.proofs.order.BitOrder.gather.Given as goal

abbrev pub invariant-loop-t : goal.invariant-loop-t
invariant-loop-t l = (l.acc < 2 ^ (l.t * l.width)) × (bits_of l.self (l.t * l.width) l.acc ≡ row l.self l.width (first l.t (drop l.at l.src)))

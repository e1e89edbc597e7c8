use Rattle.std.proofs.Common.{◌≡◌, ◌+◌, ◌*◌, ◌^◌, ◌<◌, ◌++◌, take}
use Rattle.bits.specs.Rows.{bits_of, row, Fit}
use Rattle.bits.proofs.order.BitOrder.spread.Given as goal

abbrev pub invariant-loop-number : goal.invariant-loop-number
invariant-loop-number l =
    (l.left < 2 ^ l.bits) × (l.bits + l.number-index * l.width ≡ l.held) × Fit l.width (take l.number-index l.out)
    × (bits_of l.self l.held l.acc ≡ row l.self l.width (take l.number-index l.out) ++ bits_of l.self l.bits l.left)

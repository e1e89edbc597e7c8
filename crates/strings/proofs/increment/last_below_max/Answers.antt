use Rattle.std.proofs.Common.{arith}
use Rattle.strings.proofs.Numbers.{bytes_from}
use Rattle.strings.proofs.increment.last_below_max.Goals as goal

pub returns-clause-typed : goal.returns-clause-typed
returns-clause-typed c = bytes_from c.args.bytes.now (λ i. omega (arith, c.type_inv.bytes i))

use Rattle.std.proofs.Common.{arith}
use Rattle.strings.proofs.Numbers.{bytes_from}
use Rattle.decimals.proofs.order.is_negative.Goals as goal

pub returns-clause-typed : goal.returns-clause-typed
returns-clause-typed c = bytes_from c.args.number.now (λ i. omega (arith, c.type_inv.number i))

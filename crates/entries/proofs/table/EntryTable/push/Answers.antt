use Rattle.std.proofs.Common.{arith}
use Rattle.entries.proofs.Padding.{padded_more}
use Rattle.entries.proofs.table.EntryTable.push.Goals as goal

pub invariant_of-self : goal.invariant_of-self
invariant_of-self c = padded_more _ _ _ c.self.invariant (omega (arith, c.self.invariant.fits))

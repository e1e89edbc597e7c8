use Rattle.std.proofs.Common.{length, arith}
use Rattle.buffers.proofs.Padding.{padded_on}
use Rattle.buffers.proofs.buffer.Buffer.extend.Goals as goal

pub invariant_of-self : goal.invariant_of-self
invariant_of-self g c =
    padded_on g.row.N c.self.inside.used c.self.inside.bytes (length c.args.bytes.now) c.copy_from_slice.new.self c.self.invariant (omega arith)
    (omega (arith, c.copy_from_slice.ensures.len))

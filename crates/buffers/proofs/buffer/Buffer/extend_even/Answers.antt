use Rattle.std.proofs.Common.{length, ap, ◌∙◌, sym, arith}
use Rattle.buffers.proofs.Padding.{padded_on}
use Rattle.buffers.proofs.buffer.Buffer.extend_even.Goals as goal

pub invariant_of-self : goal.invariant_of-self
invariant_of-self g c =
    padded_on g.row.N c.self.inside.used c.self.inside.bytes c.in_ok-size.size c.lay.new.out c.self.invariant (omega arith)
    (ap length c.lay.ensures ∙ sym c.in_ok-size.ensures.size.1)

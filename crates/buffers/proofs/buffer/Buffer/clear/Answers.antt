use Rattle.std.proofs.Common.{◌-◌, replicate, ap, ◌∙◌, arith}
use Rattle.std.proofs.lemmas.List.{length-take-le}
use Rattle.buffers.proofs.Padding.{padded_anew}
use Rattle.buffers.proofs.buffer.Buffer.clear.Goals as goal

pub invariant_of-self : goal.invariant_of-self
invariant_of-self g c =
    let u = c.self.inside.used in
    let xs = c.self.inside.bytes in
    padded_anew g.row.N u xs c.put_zeros.new.bytes c.self.invariant
    (c.put_zeros.ensures ∙ ap (λ k. replicate k 0) (length-take-le (u - 0) xs (omega (arith, c.self.invariant.wide, c.self.invariant.fits)) ∙ omega arith))

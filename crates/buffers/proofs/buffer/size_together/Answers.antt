use Rattle.std.proofs.Common.{SomeIff, ◌<◌, ◌^◌, sym, subst}
use Rattle.buffers.proofs.Laying.{length-together}
use Rattle.buffers.proofs.buffer.size_together.Goals as goal

pub returns-clause-size : goal.returns-clause-size
returns-clause-size g c =
    subst (λ n. SomeIff c.checked_mul.result (n < 2 ^ 64) n) (sym (length-together g.V.ValueOf.bytes c.args.width c.args.values.now c.requires)) c.checked_mul.ensures

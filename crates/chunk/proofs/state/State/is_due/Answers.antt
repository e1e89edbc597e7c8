use Rattle.std.proofs.Common.{refl}
use Rattle.chunk.specs.Stands.{context_in}
use Rattle.chunk.proofs.Contexts.{by_own}
use Rattle.chunk.proofs.state.State.is_due.Goals as goal

pub returns : goal.returns
returns g c = by_own c.args.self.now _ (λ o l s. c.is_due.ensures (context_in c.args.self.now) l.page refl s.page)

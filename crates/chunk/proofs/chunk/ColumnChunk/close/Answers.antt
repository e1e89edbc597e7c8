use Rattle.std.proofs.Math.Logic.{∥∥₁_map}
use Rattle.chunk.proofs.Whole.{kept_whole}
use Rattle.chunk.proofs.chunk.ColumnChunk.close.Goals as goal

pub invariant_of-self : goal.invariant_of-self
invariant_of-self g c = record { stands = ∥∥₁_map c.args.self.now.stands (λ q. (_, (c.close.ensures.called q.0 q.1).stands)) }

pub returns-clause-kept : goal.returns-clause-kept
returns-clause-kept g c = kept_whole _ _ c.close.result _ _ (c.close.ensures.kept c.args.self.now.stands)

use Rattle.std.proofs.Common.{sym, subst}
use Rattle.ledger.specs.Ledger.{batched, ended}
use Rattle.chunk.specs.Calls.{Called}
use Rattle.runs.specs.Runs.{call_of}
use Rattle.runs.proofs.call.play.Goals as goal

pub returns-in-Batch-clause-called : goal.returns-in-Batch-clause-called
returns-in-Batch-clause-called g c = λ h s.
    subst (λ k. Called h (call_of g.V.ValueOf.bytes k) c.args.chunk.now.state c.args.scratch.now (batched c.batch.result) c.batch.new.self.state c.batch.new.scratch) (sym c.in-Batch.is) (c.batch.ensures.called h s)

pub returns-in-Cut-clause-called : goal.returns-in-Cut-clause-called
returns-in-Cut-clause-called g c = λ h s.
    subst (λ k. Called h (call_of g.V.ValueOf.bytes k) c.args.chunk.now.state c.args.scratch.now (ended c.cut.result) c.cut.new.self.state c.cut.new.scratch) (sym c.in-Cut.is) (c.cut.ensures.called h s)

pub returns-in-Close-clause-called : goal.returns-in-Close-clause-called
returns-in-Close-clause-called g c = λ h s.
    subst (λ k. Called h (call_of g.V.ValueOf.bytes k) c.args.chunk.now.state c.args.scratch.now (ended c.close.result) c.close.new.self.state c.close.new.scratch) (sym c.in-Close.is) (c.close.ensures.called h s)

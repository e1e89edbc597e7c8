use Rattle.std.proofs.Common.{Ok, Err, sym, ap, ◌∙◌, subst}
use Rattle.std.proofs.lemmas.Result.{err_from_is_err_and}
use Rattle.ledger.specs.Ledger.{close, ended}
use Rattle.chunk.specs.Calls.{Called}
use Rattle.chunk.proofs.Ending.{close_refused, closed_after}
use Rattle.chunk.proofs.state.State.close.Goals as goal

pub returns-in_err-pages-clause-called : goal.returns-in_err-pages-clause-called
returns-in_err-pages-clause-called g c = λ h s.
    let p = err_from_is_err_and c.from_residual.result c.from_residual.ensures.1 in
    close_refused h c.args.self.now c.args.scratch.now c.from_residual.result c.in_err-pages.field-0.0 c.cut.new.self c.cut.new.scratch
    (p.1 ∙ ap Err p.2) (c.in_err-pages.ensures.called h s)

pub returns-clause-called : goal.returns-clause-called
returns-clause-called g c = λ h s.
    subst (λ y. Called h close c.args.self.now c.args.scratch.now (ended (Ok c.in_ok-pages.pages)) y c.cut.new.scratch) (sym c.shut.ensures)
    (closed_after h c.args.self.now c.args.scratch.now c.in_ok-pages.pages c.cut.new.self c.cut.new.scratch s (c.in_ok-pages.ensures.called h s))

use Rattle.std.proofs.Common.{Err, sym, ap, ◌∙◌, subst}
use Rattle.std.proofs.lemmas.Result.{err_from_is_err_and}
use Rattle.ledger.specs.Ledger.{cut, ended}
use Rattle.chunk.specs.Calls.{Called}
use Rattle.chunk.proofs.Ending.{cut_refused, cut_wrote}
use Rattle.chunk.proofs.state.State.cut.Goals as goal

pub returns-in_err-test_end-clause-called : goal.returns-in_err-test_end-clause-called
returns-in_err-test_end-clause-called g c = λ h s.
    let p = err_from_is_err_and c.from_residual.result c.from_residual.ensures.1 in
    subst (λ r. Called h cut c.args.self.now c.args.scratch.now (ended r) c.args.self.now c.args.scratch.now) (sym (p.1 ∙ ap Err p.2))
    (cut_refused h c.args.self.now c.args.scratch.now c.in_err-test_end.field-0.0 s (sym (c.test_end.ensures.tests h.ledger s.phase.same) ∙ c.in_err-test_end.was))

pub returns-clause-called : goal.returns-clause-called
returns-clause-called g c = λ h s.
    cut_wrote h c.args.self.now c.args.scratch.now c.add_data_page.result c.add_data_page.new.self c.add_data_page.new.scratch
    (sym (c.test_end.ensures.tests h.ledger s.phase.same) ∙ c.in_ok-test_end.was) (c.add_data_page.ensures.wrote h s)

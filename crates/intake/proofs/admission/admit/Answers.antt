use Rattle.std.proofs.Common.{Err, ap, ◌∙◌}
use Rattle.std.proofs.lemmas.Result.{err_from_is_err_and}
use Rattle.ledger.specs.Batches.{Batch}
use Rattle.intake.specs.Admitting.{batch_of}
use Rattle.intake.proofs.Admits.{levels_refused, levels_passed, made_admitted}
use Rattle.intake.proofs.admission.admit.Goals as goal

pub returns-in_err-admit_levels-clause-answer : goal.returns-in_err-admit_levels-clause-answer
returns-in_err-admit_levels-clause-answer g c =
    let p = err_from_is_err_and c.from_residual.result c.from_residual.ensures.1 in
    let b : Batch = batch_of g.V.ValueOf.bytes c.args.batch in
    p.1 ∙ ap Err p.2 ∙ levels_refused c.args.layout b c.admit_levels.result c.in_err-admit_levels.field-0.0 c.admit_levels.ensures c.in_err-admit_levels.was

pub returns-clause-admits : goal.returns-clause-admits
returns-clause-admits g c =
    let b : Batch = batch_of g.V.ValueOf.bytes c.args.batch in
    made_admitted c.args.layout b c.admit_values.result (c.admit_values.ensures ∙ levels_passed c.args.layout b c.admit_levels.result c.admit_levels.ensures c.in_ok-admit_levels.was)

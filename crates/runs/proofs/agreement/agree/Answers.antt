use Rattle.std.proofs.Common.{Err, ap, sym, ◌∙◌, subst}
use Rattle.std.proofs.lemmas.Result.{err_from_is_err_and}
use Rattle.page_log.specs.Records.{said_record}
use Rattle.runs.specs.Both.{Agreed}
use Rattle.runs.proofs.Agreeing.{agreed_none, agreed_other, agreed}
use Rattle.runs.proofs.agreement.agree.Goals as goal

pub returns-in_err-one : goal.returns-in_err-one
returns-in_err-one g c = λ h k s t.
    let e = err_from_is_err_and c.from_residual.result c.from_residual.ensures.1 in
    subst (λ r. Agreed h k r) (sym (e.1 ∙ ap Err e.2)) (agreed_none h k c.in_err-one.field-0.0 (c.in_err-one.ensures.recorded h s))

pub returns-in_err-other : goal.returns-in_err-other
returns-in_err-other g c = λ h k s t.
    let e = err_from_is_err_and c.from_residual-in_err-other.result c.from_residual-in_err-other.ensures.1 in
    subst (λ r. Agreed h k r) (sym (e.1 ∙ ap Err e.2)) (agreed_other h k c.in_err-other.field-0.0 (c.in_err-other.ensures.recorded k t))

pub returns : goal.returns
returns g c = λ h k s t.
    agreed h k (said_record c.in_ok-one.one) (said_record c.in_ok-other.other) c.has_same_figures.result (c.in_ok-one.ensures.recorded h s) (c.in_ok-other.ensures.recorded k t) c.has_same_figures.ensures

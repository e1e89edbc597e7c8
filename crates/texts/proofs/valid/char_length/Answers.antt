use Rattle.std.proofs.Common.{◌≡◌, ◌-◌, ◌≤◌, ◌<◌, ◌∷◌, length, take, sym, ◌∙◌, subst, rules}
use Rattle.texts.specs.Leads.{fits}
use Rattle.texts.specs.Steps.{Step}
use Rattle.texts.proofs.LeadBytes.{empty, refused_lead, refused_short, step_by}
use Rattle.texts.proofs.valid.char_length.Goals as goal

pub returns-in_err-lead : goal.returns-in_err-lead
returns-in_err-lead c = subst (Step c.args.bytes.now) (sym c.from_residual.ensures) (empty c.args.bytes.now c.in_err-lead.ensures.cases)

pub returns-in_err-checked_sub : goal.returns-in_err-checked_sub
returns-in_err-checked_sub c =
    let b : c.args.bytes.now ≡ c.in_ok-lead.lead.now ∷ c.in_ok-lead.rest.now = search rules in
    subst (Step c.args.bytes.now) (sym c.from_residual-in_err-checked_sub.ensures)
    (refused_lead c.args.bytes.now c.in_ok-lead.rest.now c.in_ok-lead.lead.now c.from-length.result b (c.from-length.ensures ∙ c.lead_length.ensures.value) c.in_err-checked_sub.ensures)

pub returns-in_err-others : goal.returns-in_err-others
returns-in_err-others c =
    let b : c.args.bytes.now ≡ c.in_ok-lead.lead.now ∷ c.in_ok-lead.rest.now = search rules in
    let h : length c.in_ok-lead.rest.now < c.from-length.result - 1 = search rules in
    subst (Step c.args.bytes.now) (sym c.from_residual-in_err-others.ensures)
    (refused_short c.args.bytes.now c.in_ok-lead.rest.now c.in_ok-lead.lead.now c.from-length.result b (c.from-length.ensures ∙ c.lead_length.ensures.value) h)

pub returns : goal.returns
returns c =
    let x = c.in_ok-lead.lead.now in
    let ys = c.in_ok-lead.rest.now in
    let n = c.from-length.result in
    let b : c.args.bytes.now ≡ x ∷ ys = search rules in
    let p : 1 ≤ n = search rules in
    let h : n - 1 ≤ length ys = search rules in
    let f : c.others_fit.result ≡ fits x (take (n - 1) ys) = search rules in
    subst (Step c.args.bytes.now) (sym c.then_some.ensures) (step_by c.args.bytes.now ys x n b (c.from-length.ensures ∙ c.lead_length.ensures.value) c.others_fit.result p h f)

use Rattle.std.proofs.Common.{sym, ◌∙◌}
use Rattle.intake.proofs.Weights.{weigh_wrong, weigh_right}
use Rattle.intake.proofs.values.weigh.Goals as goal

pub returns-in-Some : goal.returns-in-Some
returns-in-Some g c = weigh_wrong g.V.ValueOf.bytes c.args.width c.args.values.now c.in-Some.at (sym c.find_unsized.ensures ∙ c.in-Some.is)

pub returns : goal.returns
returns g c = weigh_right g.V.ValueOf.bytes c.args.width c.args.values.now c.plain_length.result (sym c.find_unsized.ensures ∙ c.in_default.is) c.plain_length.ensures

use Rattle.std.proofs.Common.{subst, rules}
use Rattle.texts.specs.Steps.{FrontOf}
use Rattle.texts.proofs.Cuts.{min_text}
use Rattle.texts.proofs.cut.truncate_min_value.Goals as goal

pub returns-clause-text : goal.returns-clause-text
returns-clause-text c =
    let l = c.args.length in
    let f = subst (λ x. FrontOf l x c.last_boundary.result) c.in-Some.ensures.0 c.last_boundary.ensures in
    min_text l c.args.value.now c.last_boundary.result c.map_or.result f (search rules)

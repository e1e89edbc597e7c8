use Rattle.std.proofs.Common.{sym, ◌∙◌}
use Rattle.rebuild.proofs.Refusals.{at_place, behind}
use Rattle.rebuild.proofs.calls.first_refusal.Goals as goal

pub returns-then-is_some : goal.returns-then-is_some
returns-then-is_some c =
    at_place c.args.calls.now c.loop-played.played-index _ c.refusal_of-refusal.result c.loop-played-test.true c.loop-played.invariant c.refusal_of-refusal.ensures
    (sym c.is_some.ensures ∙ c.if-is_some.true)

pub loop-played-preserved : goal.loop-played-preserved
loop-played-preserved c =
    behind c.args.calls.now c.loop-played.played-index _ c.refusal_of-refusal.result c.loop-played-test.true c.loop-played.invariant c.refusal_of-refusal.ensures
    (sym c.is_some.ensures ∙ c.if-is_some.false)

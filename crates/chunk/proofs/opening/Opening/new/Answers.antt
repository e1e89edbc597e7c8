use Rattle.std.proofs.Common.{ap, ◌∙◌, is_ok}
use Rattle.chunk.proofs.Openings.{is_ok-checked}
use Rattle.chunk.proofs.opening.Opening.new.Goals as goal

pub invariant_of-result-clause-accepted : goal.invariant_of-result-clause-accepted
invariant_of-result-clause-accepted g c = c.is_ok.ensures.value ∙ ap is_ok c.check.ensures.answer ∙ is_ok-checked g.K.Kind.meaning g.L.LevelCoder.coding g.B.BodyCoder.body c.args.column c.args.settings

pub invariant_of-result-clause-paired : goal.invariant_of-result-clause-paired
invariant_of-result-clause-paired g c = g.S.PageStore.meaning.paired

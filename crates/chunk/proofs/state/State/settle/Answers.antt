use Rattle.std.proofs.Common.{sym, ◌∙◌, subst}
use Rattle.chunk.specs.Calls.{Settled}
use Rattle.chunk.proofs.Ending.{settled_not_due, settled_wrote}
use Rattle.chunk.proofs.state.State.settle.Goals as goal

pub returns-then-not-is_due : goal.returns-then-not-is_due
returns-then-not-is_due g c = λ h s.
    subst (λ r. Settled h c.args.values c.args.self.now c.args.scratch.now r c.args.self.now c.args.scratch.now) (sym c.batch_done.ensures)
    (settled_not_due h c.args.self.now c.args.scratch.now c.args.values s (sym (c.is_due.ensures h s) ∙ c.if-not-is_due.true))

pub returns : goal.returns
returns g c = λ h s.
    subst (λ r. Settled h c.args.values c.args.self.now c.args.scratch.now r c.add_data_page.new.self c.add_data_page.new.scratch) (sym c.batch_done-2.ensures)
    (settled_wrote h c.args.self.now c.args.scratch.now c.args.values c.add_data_page.result c.add_data_page.new.self c.add_data_page.new.scratch (sym (c.is_due.ensures h s) ∙ c.if-not-is_due.false) (c.add_data_page.ensures.wrote h s))

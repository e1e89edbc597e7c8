use Rattle.std.proofs.Common.{◌∙◌}
use Rattle.open_page.proofs.Fitting.{laid_out}
use Rattle.open_page.proofs.page.OpenPage.assemble.Goals as goal

pub returns-clause-page : goal.returns-clause-page
returns-clause-page g c = λ m p o joins.
    laid_out g.L.LevelCoder.coding g.B.BodyCoder.body c.args.layout p o.allowed joins o.well c.args.out.now c.assemble.new.out c.assemble.result _ _ _
    (c.as_slice.ensures.bytes ∙ o.holds.reps) (c.as_slice-2.ensures.bytes ∙ o.holds.defs) (c.as_slice-3.ensures.bytes ∙ o.holds.plain) c.assemble.ensures

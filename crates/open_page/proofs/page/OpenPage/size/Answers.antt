use Rattle.std.proofs.Common.{length, ap, ◌∙◌}
use Rattle.open_page.proofs.Fitting.{sized_whole}
use Rattle.open_page.proofs.page.OpenPage.size.Goals as goal

pub returns : goal.returns
returns g c = λ m p o joins.
    sized_whole g.L.LevelCoder.coding g.B.BodyCoder.body c.args.layout p o.allowed joins o.well c.level_count.result _ c.page_size.result
    (c.level_count.ensures.count ∙ ap length o.holds.defs) (ap length (c.as_slice.ensures.bytes ∙ o.holds.plain)) c.page_size.ensures.cases c.page_size.ensures.length

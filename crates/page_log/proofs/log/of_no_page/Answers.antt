use Rattle.std.proofs.Common.{◌≤◌, sym, subst}
use Rattle.pages.specs.declared.layout.Layout.{Layout}
use Rattle.metrics.specs.Metrics.{Sums}
use Rattle.ledger.specs.Pages.{blank}
use Rattle.page_log.proofs.Logging.{level_few}
use Rattle.page_log.proofs.log.of_no_page.Goals as goal

pub returns : goal.returns
returns c = λ x is.
    let Few : Layout → Type 0 = λ l. (l.max_rep_level ≤ 15) × (l.max_def_level ≤ 15) in
    let few = subst Few (sym is) (level_few x.column.max_rep_level, level_few x.column.max_def_level) in
    let P : Layout → Type 0 = λ l. Sums x.kind l blank 0 c.new.result in
    (subst P is (c.new.ensures x.kind few.0 few.1), c.new-2.ensures x.kind)

use Rattle.std.proofs.Common.{sym, ◌∙◌}
use Rattle.words.specs.Words.{eight}
use Rattle.release.proofs.Passing.{no_dips}
use Rattle.release.proofs.dips.admits_dip.Goals as goal

pub returns-then-not-page-clause-passes_over : goal.returns-then-not-page-clause-passes_over
returns-then-not-page-clause-passes_over c = λ l cut p s none. no_dips l cut p (eight c.args.limit.0) c.args.page.now (sym c.is_above.ensures ∙ none) s

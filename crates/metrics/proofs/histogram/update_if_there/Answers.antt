use Rattle.std.proofs.Common.{suc, ◌++◌, sym, ◌∙◌}
use Rattle.metrics.proofs.Tallies.{counts_there, counts_from}
use Rattle.metrics.proofs.histogram.update_if_there.Goals as goal

pub returns-in-Some : goal.returns-in-Some
returns-in-Some c = λ most ls few e.
    let old = sym c.in-Some.is ∙ e in
    counts_from most ls (ls ++ c.args.levels.now) _ _ old (c.update_from_levels.ensures.joined (suc most) ls few (counts_there most ls _ old))

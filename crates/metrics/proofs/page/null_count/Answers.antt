use Rattle.metrics.proofs.Tallies.{others_counted}
use Rattle.metrics.proofs.page.null_count.Goals as goal

pub returns : goal.returns
returns c = others_counted c.args.max_def_level c.args.defs.now c.count_of.result c.count_of.ensures

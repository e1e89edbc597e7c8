use Rattle.std.proofs.Common.{arith}
use Rattle.std.proofs.lemmas.Grind.{common_steps}
use Rattle.metrics.proofs.Tallies.{added-tally}
use Rattle.metrics.proofs.histogram.LevelHistogram.add_histogram.Goals as goal

pub returns-clause-joined : goal.returns-clause-joined
returns-clause-joined c = λ k xs ys few ex ey. added-tally k xs ys _ _ _ few ex ey (grind (arith, common_steps))

use Rattle.std.proofs.Common.{arith}
use Rattle.std.proofs.lemmas.Grind.{common_steps}
use Rattle.metrics.proofs.Tallies.{grown-tally}
use Rattle.metrics.proofs.histogram.LevelHistogram.update_from_levels.Goals as goal

pub returns-clause-joined : goal.returns-clause-joined
returns-clause-joined c = λ k ls few e. grown-tally k ls _ _ _ few e (grind (arith, common_steps))

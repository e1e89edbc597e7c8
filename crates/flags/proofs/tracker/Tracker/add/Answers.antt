use Rattle.std.proofs.Common.{rules}
use Rattle.flags.proofs.Along.{tracks_more}
use Rattle.flags.proofs.tracker.Tracker.add.Goals as goal

pub returns : goal.returns
returns g c = search (rules, tracks_more)

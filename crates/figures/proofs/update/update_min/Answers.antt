use Rattle.std.proofs.Common.{rules}
use Rattle.kinds.specs.Meaning.{greater}
use Rattle.figures.proofs.Joined.{min_updated}
use Rattle.figures.proofs.update.update_min.Goals as goal

pub returns : goal.returns
returns g c =
    min_updated g.K.Kind.meaning _ _ _ (c.update_stat.ensures (λ v u. greater g.K.Kind.meaning v u) (λ a b r h. search rules))

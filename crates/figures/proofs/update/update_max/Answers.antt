use Rattle.std.proofs.Common.{rules}
use Rattle.kinds.specs.Meaning.{greater}
use Rattle.figures.proofs.Joined.{max_updated}
use Rattle.figures.proofs.update.update_max.Goals as goal

pub returns : goal.returns
returns g c =
    max_updated g.K.Kind.meaning _ _ _ (c.update_stat.ensures (λ v u. greater g.K.Kind.meaning u v) (λ a b r h. search rules))

use Rattle.ieee.proofs.Ranks.{by_ranks}
use Rattle.ieee.proofs.total.total_greater.Goals as goal

pub returns-clause-order : goal.returns-clause-order
returns-clause-order g c =
    by_ranks g.P.Pattern.format g.P.Pattern.some _ _ c.rank.result c.rank-2.result c.rank.ensures c.rank-2.ensures

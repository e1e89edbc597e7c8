use Rattle.std.proofs.Common.{refl, ◌∙◌, arith}
use Rattle.ieee.proofs.Ranks.{by_place}
use Rattle.ieee.proofs.nan.is_nan.Goals as goal

pub returns : goal.returns
returns g c =
    c.is_past_infinity.ensures ∙ by_place g.P.Pattern.format g.P.Pattern.some _ _ _ (omega arith) refl

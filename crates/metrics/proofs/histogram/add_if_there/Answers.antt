use Rattle.std.proofs.Common.{suc, ◌++◌, sym, ◌∙◌, arith}
use Rattle.metrics.proofs.Tallies.{counts-absent, counts_there, counts_from, counts_joined_none}
use Rattle.metrics.proofs.histogram.add_if_there.Goals as goal
use Rattle.metrics.proofs.histogram.add_if_there.Goals.{in-Some-Some, in-Some+in-None-1, in-None-1}

pub returns : goal.returns
returns c = λ most xs ys few ex ey.
    elim c.match-all.branch [
      | in-Some-Some w ↦
          let old = sym w.in-Some-Some.is-0 ∙ ex in
          w.all-is ∙ counts_from most xs (xs ++ ys) _ _ old (w.add_histogram.ensures.joined (suc most) xs ys few (counts_there most xs _ old) (counts_there most ys _ (sym w.in-Some-Some.is-1 ∙ ey)))
      | in-Some+in-None-1 w ↦ grind (arith, counts_joined_none)
      | in-None-1 w ↦ w.all-is ∙ ex ∙ grind (arith, counts-absent most xs (xs ++ ys))
    ]

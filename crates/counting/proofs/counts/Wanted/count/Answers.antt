use Rattle.std.proofs.Common.{◌-◌, cond, length, take, drop, count_by, ap, ◌∙◌, take-add, arith}
use Rattle.std.proofs.lemmas.List.{take_all, length-drop}
use Rattle.std.proofs.lemmas.List.Sums.{sum_by-append, sum_by-take-drop}
use Rattle.counting.specs.Counting.{wanted}
use Rattle.counting.proofs.counts.Wanted.count.Goals as goal

pub loop-at-preserved : goal.loop-at-preserved
loop-at-preserved c =
    let at = c.loop-at.at in
    let ns = c.args.numbers.now in
    let p = wanted c.args.self in
    let more = ap (count_by p) (take-add at 16 ns) ∙ sum_by-append (λ n. cond (p n) 1 0) (take at ns) (take 16 (drop at ns)) in (
      omega (arith, c.loop-at-test.true, c.loop-at.invariant.0),
      omega (arith, c.loop-at.invariant.1, c.count_lanes.ensures, more),
    )

pub returns : goal.returns
returns c =
    let at = c.loop-at.at in
    let ns = c.args.numbers.now in
    let p = wanted c.args.self in
    let rest = ap (count_by p) (take_all (length ns - at) (drop at ns) (omega (arith, length-drop at ns))) in
    omega (arith, c.loop-at.invariant.1, c.count_rest.ensures, rest, sum_by-take-drop (λ n. cond (p n) 1 0) ns at)

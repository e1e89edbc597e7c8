use Rattle.std.proofs.Common.{◌-◌, ◌≤◌, length, map, take}
use Rattle.figures.proofs.Walk.{Seen}
use Rattle.figures.proofs.get.get_min_max.Given as goal

abbrev pub invariant-loop-at : goal.invariant-loop-at
invariant-loop-at g l =
    (l.at ≤ length l.values) × Seen g.K.Kind.meaning g.V.ValueOf.bytes (map g.V.ValueOf.bytes (take l.at l.values)) l.min l.max l.nan_count l.at

abbrev pub decreases-loop-at : goal.decreases-loop-at
decreases-loop-at g l = length l.values - l.at

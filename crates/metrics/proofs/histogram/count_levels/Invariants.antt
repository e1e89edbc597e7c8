use Rattle.std.proofs.Common.{◌≡◌, ℕ, ◌+◌, ◌-◌, ◌^◌, ◌<◌, ◌≤◌, min, eqb, count_by, get_or}
use Rattle.metrics.proofs.histogram.count_levels.Given as goal

abbrev pub invariant-loop-level : goal.invariant-loop-level
invariant-loop-level l =
    ((k : ℕ) → k < l.level → get_or l.counts k 0 ≡ min (get_or l.initial.counts k 0 + count_by (eqb k) l.levels) (2 ^ 64 - 1))
    × ((k : ℕ) → l.level ≤ k → get_or l.counts k 0 ≡ get_or l.initial.counts k 0)

use Rattle.std.proofs.Common.{◌≡◌, ◌-◌, ◌≤◌, length, take, count_by}
use Rattle.counting.specs.Counting.{wanted}
use Rattle.counting.proofs.counts.Wanted.count.Given as goal

abbrev pub invariant-loop-at : goal.invariant-loop-at
invariant-loop-at l = (l.at ≤ length l.numbers) × (l.count ≡ count_by (wanted l.self) (take l.at l.numbers))

abbrev pub decreases-loop-at : goal.decreases-loop-at
decreases-loop-at l = length l.numbers - l.at

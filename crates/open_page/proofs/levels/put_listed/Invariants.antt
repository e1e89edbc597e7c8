use Rattle.std.proofs.Common.{◌≡◌, ℕ, ◌<◌, min, get_or, pos}
use Rattle.ledger.specs.Batches.{natural}
use Rattle.open_page.proofs.levels.put_listed.Given as goal

abbrev pub invariant-loop-at : goal.invariant-loop-at
invariant-loop-at l = (k : ℕ) → k < l.at → get_or l.levels k 0 ≡ min (natural (get_or l.given k (pos 0))) 255

use Rattle.std.proofs.Common.{◌≡◌, ℕ, ◌≤◌, length, take, drop, IsUtf8}
use Rattle.texts.proofs.valid.is_utf8.Given as goal

-- what is left stands behind a front that is text
abbrev pub invariant-loop-length : goal.invariant-loop-length
invariant-loop-length l = (k : ℕ) × (k ≤ length l.bytes) × (l.rest ≡ drop k l.bytes) × IsUtf8 (take k l.bytes)

abbrev pub decreases-loop-length : goal.decreases-loop-length
decreases-loop-length l = length l.rest

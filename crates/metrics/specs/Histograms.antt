-- Level histograms, as the format's SizeStatistics has them: a count for each level from 0 to the maximum.
use Rattle.std.specs.Prelude.{◌≡◌, ℕ, ◌+◌, ◌-◌, ◌^◌, ◌<◌, min, List, length, count_by, nat_eq, slice_index}

-- each count grown by how often its level stands in a list, up to the highest; a level without a count changes none
pub record Grown (old ls new : List ℕ) : Type 0 where
  pub levels : length new ≡ length old
  pub sums : (k : ℕ) → k < length old → slice_index new k ≡ min (slice_index old k + count_by (nat_eq k) ls) (2 ^ 64 - 1)

-- each count grown by the other count of its level, up to the highest
pub record Added (old other new : List ℕ) : Type 0 where
  pub levels : length new ≡ length old
  pub sums : (k : ℕ) → k < length old → slice_index new k ≡ min (slice_index old k + slice_index other k) (2 ^ 64 - 1)

-- The bit width of levels: from the Parquet format's encodings text, which takes it from the maximum level.
use Rattle.std.specs.Prelude.{ℕ, ◌^◌, ◌<◌, ◌≤◌}

-- r is the fewest bits that write v
pub record BitLength (v r : ℕ) : Type 0 where
  pub enough : v < 2 ^ r
  pub fewest : (k : ℕ) → v < 2 ^ k → r ≤ k

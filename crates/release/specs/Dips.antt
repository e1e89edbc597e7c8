-- Dips: hold temperatures below the limit.
use Rattle.std.specs.Prelude.{◌≡◌, ℕ, ◌<◌, Bool, false, not, ◌&&◌, List, [], length, slice_index_or}
use Rattle.kinds.specs.Meaning.{greater}
use Rattle.floats.specs.Floats.{double}

-- whether a reading is a number that the limit is greater than
abbrev pub dips : List ℕ → List ℕ → Bool
dips limit v = not (double.nan v) && greater double limit v

-- none of the readings is below the limit
abbrev pub PassesOver : List ℕ → List (List ℕ) → Type 0
PassesOver limit vs = (i : ℕ) → i < length vs → dips limit (slice_index_or vs i []) ≡ false

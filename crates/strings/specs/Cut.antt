-- Bounds of undecorated bytes at a length, as a page index may hold them: a value that is longer is cut.
use Rattle.std.specs.Prelude.{◌≡◌, ℕ, ◌+◌, ◌^◌, ◌<◌, ◌≤◌, Bool, true, false, cond, ◌&&◌, List, length, take, Some, None, Option, nat_lt, slice_index}
use Rattle.kinds.specs.Cuts.{Bound, whole}
use Rattle.strings.specs.Lexical.{above, Bytes}
use Rattle.strings.specs.Numbers.{number, digits}

-- a value cut to these bytes
abbrev pub shortened : List ℕ → Bound
shortened bs = record { bytes = bs; cut = true }

-- v is longer than l
abbrev pub longer : ℕ → List ℕ → Bool
longer l v = nat_lt l (length v)

-- the lower bound is the first l bytes
abbrev pub lower : ℕ → List ℕ → Bound
lower l v = cond (longer l v) (shortened (take l v)) (whole v)

-- the first l bytes plus one, as a big-endian number
abbrev pub raised : ℕ → List ℕ → ℕ
raised l v = number (take l v) + 1

-- the upper bound is that number in l bytes, where l bytes hold it
abbrev pub upper : ℕ → List ℕ → Bound
upper l v = cond (longer l v && nat_lt (raised l v) (256 ^ l)) (shortened (digits l (raised l v))) (whole v)

-- no string of at most l bytes is at or above v
abbrev pub NoneReaches : ℕ → List ℕ → Type 0
NoneReaches l v = (s : List ℕ) → Bytes s → length s ≤ l → above v s ≡ true

-- a longer value stays whole exactly if no string of at most l bytes is at or above it
pub record Exactly (l : ℕ) (v : List ℕ) (cut : Bool) : Type 0 where
  pub refused : l < length v → cut ≡ false → NoneReaches l v
  pub needed : l < length v → NoneReaches l v → cut ≡ false
  pub short : length v ≤ l → cut ≡ false

-- what adding one to a big-endian number in place answers and leaves: absent, and nothing changed, exactly if it takes a byte more
abbrev pub Incremented : List ℕ → List ℕ → Option (Unit {0}) → Type 0
Incremented old new (Some _) = (number old + 1 < 256 ^ length old) × (new ≡ digits (length old) (number old + 1))
Incremented old new None = (256 ^ length old ≤ number old + 1) × (new ≡ old)

-- the last byte below 255
abbrev pub LastBelow : List ℕ → Option ℕ → Type 0
LastBelow t (Some p) = (p < length t) × (slice_index t p < 255) × ((k : ℕ) → p < k → k < length t → slice_index t k ≡ 255)
LastBelow t None = (k : ℕ) → k < length t → slice_index t k ≡ 255

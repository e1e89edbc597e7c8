-- Numbers as the format's PLAIN encoding lays them down: little-endian, in two, four or eight bytes.
use Rattle.std.specs.Prelude.{ℕ, zero, suc, ◌≤◌, ◌+◌, ◌*◌, ◌/◌, ◌%◌, List, [], ◌∷◌, slice_index}
use Rattle.std.proofs.Common.{le_trans, lit≤}

-- the little-endian number of k bytes from a place on; a missing byte is 0
abbrev pub little : ℕ → ℕ → List ℕ → ℕ
little i zero v = 0
little i (suc k) v = slice_index v i + 256 * little (i + 1) k v

-- the number of a value's first k bytes
abbrev pub word : ℕ → List ℕ → ℕ
word k v = little 0 k v

-- eight bytes are within the 128 that a width may be
pub few : {k : ℕ} → k ≤ 8 → k ≤ 128
few h = le_trans h (lit≤ tt)

-- k bytes of a value from a place on; a missing byte is 0
abbrev pub first_from : ℕ → ℕ → List ℕ → List ℕ
first_from i zero v = []
first_from i (suc k) v = slice_index v i ∷ first_from (i + 1) k v

-- a value's first k bytes
abbrev pub first : ℕ → List ℕ → List ℕ
first k v = first_from 0 k v

-- a number's two and eight little-endian bytes
abbrev pub two : ℕ → List ℕ
two n = n % 256 ∷ n / 256 % 256 ∷ []

abbrev pub eight : ℕ → List ℕ
eight n = n % 256 ∷ n / 256 % 256 ∷ n / 65536 % 256 ∷ n / 16777216 % 256 ∷ n / 4294967296 % 256 ∷ n / 1099511627776 % 256 ∷ n / 281474976710656 % 256 ∷ n / 72057594037927936 % 256 ∷ []

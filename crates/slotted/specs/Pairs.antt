-- The pairs at the back of an area.
use Rattle.std.specs.Prelude.{ℕ, ◌+◌, ◌-◌, ◌*◌, ◌/◌, ◌%◌, List, [], ◌∷◌, map, length, slice_index}
use Rattle.std.specs.List.{range_with_len}
use Rattle.areas.specs.declared.place.Place.{Place}

-- the little-endian 16-bit number at an offset
abbrev pub le16 : List ℕ → ℕ → ℕ
le16 area at = slice_index area at + slice_index area (at + 1) * 256

-- the bytes of a pair: an offset, then a length
abbrev pub pair_bytes : ℕ → ℕ → List ℕ
pair_bytes o n = o % 256 ∷ o / 256 % 256 ∷ n % 256 ∷ n / 256 % 256 ∷ []

-- pair i, counted from the area's end
abbrev pub pair_at : List ℕ → ℕ → Place
pair_at area i = record { offset = le16 area (length area - 4 * (i + 1)); len = le16 area (length area - 4 * (i + 1) + 2) }

-- the pairs, the first page's first
abbrev pub pairs : List ℕ → ℕ → List Place
pairs area n = map (pair_at area) (range_with_len 0 n)

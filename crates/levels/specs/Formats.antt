-- The bytes of levels: from the Parquet format's encodings text, its sections on the RLE / bit-packing hybrid and on the deprecated bit-packed encoding.
use Rattle.std.specs.Prelude.{ℕ, zero, suc, ◌+◌, ◌*◌, ◌/◌, ◌%◌, cond, List, [], ◌∷◌, ◌++◌, length, nat_lt}
use Rattle.bits.specs.declared.order.BitOrder.TheVariants.{LeastFirst, MostFirst}
use Rattle.bits.specs.Rows.{packed}
use Rattle.bits.specs.Packing.{groups}

-- seven bits to a byte, the lowest first, 128 added to each byte but the last, in so many turns
abbrev pub uleb_by : ℕ → ℕ → List ℕ
uleb_by zero v = []
uleb_by (suc turns) v = cond (nat_lt v 128) (v ∷ []) ((v % 128 + 128) ∷ uleb_by turns (v / 128))

-- ULEB128 of a number of at most 63 bits
unfoldable pub uleb : ℕ → List ℕ
uleb v = uleb_by 9 v

-- the header of a bit-packed run: twice its number of groups, and 1
abbrev pub header : ℕ → List ℕ
header n = uleb (2 * groups n + 1)

-- how many bytes hold that many bits
abbrev pub bytes_for : ℕ → ℕ
bytes_for bits = (bits + 7) / 8

-- what Packed writes: one bit-packed run of groups of eight levels, the least significant bit first, the last group filled with 0
abbrev pub packed_coded : ℕ → List ℕ → List ℕ
packed_coded b ls = header (length ls) ++ packed LeastFirst b (groups (length ls) * b) ls

-- what Legacy writes: levels back to back, the most significant bit first, the last byte filled with 0
abbrev pub legacy_coded : ℕ → List ℕ → List ℕ
legacy_coded b ls = packed MostFirst b (bytes_for (length ls * b)) ls

-- The layout of a packed sink, from docs/sinks.md.
use Rattle.std.specs.Prelude.{◌≡◌, ℕ, ◌+◌, ◌≤◌, Bool, true, false, cond, ◌&&◌, List, [], ◌++◌, length, take, drop, nat_le, nat_lt, set}
use Rattle.std.specs.List.{flat_map}
use Rattle.std.specs.List.Sorted.{IsNonDecreasingBy}
use Rattle.sinks.specs.Sinks.{SinkMeaning}
use Rattle.sinks.specs.Stores.{StoreMeaning}
use Rattle.areas.specs.Areas.{allowed, store_of, laid, Tiles, end_of, SameMemory}
use Rattle.areas.specs.declared.place.Place.{Place}
use Rattle.packed.specs.Kept.{magic}
use Rattle.packed.specs.declared.sink.PackedSink.{PackedSink}

-- the places of the pages
abbrev pub places : PackedSink → List Place
places s = take s.count s.table.now

-- where the pages end, the first of them behind the four bytes
abbrev pub end_in : PackedSink → ℕ
end_in s = end_of 4 (places s)

-- whether the area may be used
abbrev pub usable : PackedSink → Bool
usable s = allowed (length s.area.now)

-- whether area and table both hold one more page of a length
abbrev pub fits_in : PackedSink → ℕ → Bool
fits_in s n = usable s && (nat_lt s.count (length s.table.now) && nat_le (end_in s + n) (length s.area.now))

-- the pages lie one behind the other without gaps, their pairs sorted by offset, in the table; in an area that may be used behind PAR1, and not past its end
pub record WellFormed (s : PackedSink) : Type 0 where
  pub tiled : Tiles 4 (places s)
  pub sorted : IsNonDecreasingBy (λ (p : Place). p.offset) (places s)
  pub few : s.count ≤ length s.table.now
  pub front : usable s ≡ true → take 4 s.area.now ≡ magic
  pub within : usable s ≡ true → end_in s ≤ length s.area.now

-- pages are what the area holds at the places of the table
abbrev pub packed_store : StoreMeaning PackedSink
packed_store = store_of (λ s. s.area.now) places

-- a page that is written: its bytes where the pages ended, its place in the table, and no other byte or place changed
pub record Added (s : PackedSink) (p : List ℕ) (s' : PackedSink) : Type 0 where
  pub area : s'.area.now ≡ laid s.area.now (end_in s) p
  pub table : s'.table.now ≡ set s.table.now s.count (record { offset = end_in s; len = length p })
  pub count : s'.count ≡ s.count + 1
  pub lent : SameMemory s'.area s.area × SameMemory s'.table s.table

-- what a packed sink means to its writer
abbrev pub packed_sink : SinkMeaning PackedSink
packed_sink = record { takes = fits_in; leaves = Added }

-- an area with PAR1 at its front, or as it was where its size is not used
abbrev pub begun : List ℕ → List ℕ
begun area = cond (allowed (length area)) (magic ++ drop 4 area) area

-- a new sink over an area and a table: without pages, and with all their room but four bytes
pub record Made (area : List ℕ) (table : List Place) (s : PackedSink) : Type 0 where
  pub pages : packed_store.pages s ≡ []
  pub takes : (n : ℕ) → fits_in s n ≡ (allowed (length area) && (nat_lt 0 (length table) && nat_le (4 + n) (length area)))
  pub front : s.area.now ≡ begun area
  pub beside : s.table.now ≡ table

-- what a sink shows of its area: PAR1 and the pages without gaps, or nothing where the area may not be used
pub record Imaged (s : PackedSink) (bs : List ℕ) : Type 0 where
  pub whole : usable s ≡ true → bs ≡ magic ++ flat_map (λ b. b) (packed_store.pages s)
  pub none : usable s ≡ false → bs ≡ []

-- The layout of a slotted sink, from docs/sinks.md.
use Rattle.std.specs.Prelude.{◌≡◌, ℕ, ◌+◌, ◌-◌, ◌*◌, ◌≤◌, Bool, ◌&&◌, List, [], length, nat_le}
use Rattle.std.specs.List.Sorted.{IsNonDecreasingBy}
use Rattle.sinks.specs.Sinks.{SinkMeaning}
use Rattle.sinks.specs.Stores.{StoreMeaning}
use Rattle.areas.specs.Areas.{allowed, store_of, laid, Tiles, end_of, SameMemory}
use Rattle.areas.specs.declared.place.Place.{Place}
use Rattle.slotted.specs.Pairs.{pair_bytes, pairs}
use Rattle.slotted.specs.declared.sink.SlottedSink.{SlottedSink}

-- the places of the pages
abbrev pub places : SlottedSink → List Place
places s = pairs s.area.now s.count

-- where the pages end
abbrev pub end_in : SlottedSink → ℕ
end_in s = end_of 0 (places s)

-- how many bytes lie between the pages and the pairs
abbrev pub gap : SlottedSink → ℕ
gap s = length s.area.now - 4 * s.count - end_in s

-- whether the area may be used
abbrev pub usable : SlottedSink → Bool
usable s = allowed (length s.area.now)

-- whether the gap holds one more page of a length and its pair
abbrev pub fits_in : SlottedSink → ℕ → Bool
fits_in s n = usable s && nat_le (n + 4) (gap s)

-- the pages lie one behind the other without gaps, their pairs in order of offset, and the last page ends before the pairs begin
pub record WellFormed (s : SlottedSink) : Type 0 where
  pub tiled : Tiles 0 (places s)
  pub sorted : IsNonDecreasingBy (λ (p : Place). p.offset) (places s)
  pub apart : end_in s + 4 * s.count ≤ length s.area.now

-- pages are what the area holds at the places of its pairs
abbrev pub slotted_store : StoreMeaning SlottedSink
slotted_store = store_of (λ s. s.area.now) places

-- a page that is written: its bytes where the pages ended, its pair before the others, and no other byte changed
pub record Added (s : SlottedSink) (p : List ℕ) (s' : SlottedSink) : Type 0 where
  pub area : s'.area.now ≡ laid (laid s.area.now (end_in s) p) (length s.area.now - 4 * (s.count + 1)) (pair_bytes (end_in s) (length p))
  pub count : s'.count ≡ s.count + 1
  pub lent : SameMemory s'.area s.area

-- what a slotted sink means to its writer
abbrev pub slotted_sink : SinkMeaning SlottedSink
slotted_sink = record { takes = fits_in; leaves = Added }

-- a new sink over an area: without pages, the whole area its gap
pub record Made (area : List ℕ) (s : SlottedSink) : Type 0 where
  pub pages : slotted_store.pages s ≡ []
  pub takes : (n : ℕ) → fits_in s n ≡ (allowed (length area) && nat_le (n + 4) (length area))
  pub same : s.area.now ≡ area

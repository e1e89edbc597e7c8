-- The pairs at the back of an area, by their number.
use Rattle.std.proofs.Common.{◌≡◌, ℕ, ◌+◌, ◌-◌, ◌<◌, ◌≤◌, List, length, Some, None, sym, ap, ◌∙◌, arith}
use Rattle.std.specs.List.{slice_get}
use Rattle.std.specs.Option.{option_map_or}
use Rattle.std.proofs.lemmas.List.{length-map}
use Rattle.std.proofs.lemmas.List.FromFn.{length-map-range_with_len, get_or-map-range_with_len}
use Rattle.std.proofs.lemmas.Option.{slice_get-get_or, slice_get_past}
use Rattle.areas.specs.Areas.{part, laid}
use Rattle.areas.proofs.Laying.{length-laid}
use Rattle.areas.proofs.Tiling.{end_last}
use Rattle.areas.specs.declared.place.Place.{Place}
use Rattle.slotted.specs.Pairs.{pair_at, pairs}
use Rattle.slotted.specs.Slots.{places, end_in, slotted_store}
use Rattle.slotted.specs.declared.sink.SlottedSink.{SlottedSink}

pub laid_length : (area : List ℕ) (at : ℕ) (bs : List ℕ) → at + length bs ≤ length area → length (laid area at bs) ≡ length area
laid_length = length-laid

pub length_pairs : (area : List ℕ) (n : ℕ) → length (pairs area n) ≡ n
length_pairs area n = length-map-range_with_len (pair_at area) 0 n

pub pair_here : (area : List ℕ) (n k : ℕ) → k < n → slice_get (pairs area n) k ≡ Some (pair_at area k)
pair_here area n k lt =
    let d = pair_at area k in
    slice_get-get_or (pairs area n) k d (omega (arith, length_pairs area n)) ∙ ap Some (get_or-map-range_with_len (pair_at area) 0 n k k d (omega arith) (omega arith))

pub pair_none : (area : List ℕ) (n k : ℕ) → n ≤ k → slice_get (pairs area n) k ≡ None
pair_none area n k le = slice_get_past (pairs area n) k (omega (arith, length_pairs area n))

pub count_is : (s : SlottedSink) → s.count ≡ length (slotted_store.pages s)
count_is s = sym (length-map (places s) (part s.area.now) ∙ length_pairs s.area.now s.count)

pub end_is : (s : SlottedSink) → end_in s ≡ option_map_or (λ (p : Place). p.offset + p.len) (slice_get (places s) (s.count - 1)) 0
end_is s = end_last 0 (places s) ∙ ap (λ n. option_map_or (λ (p : Place). p.offset + p.len) (slice_get (places s) (n - 1)) 0) (length_pairs s.area.now s.count)

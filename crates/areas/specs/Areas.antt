-- Areas of bytes and the places in them, from docs/sinks.md.
use Rattle.std.specs.Prelude.{◌≡◌, ℕ, ◌+◌, Bool, true, false, cond, ◌&&◌, List, [], ◌∷◌, ◌++◌, map, length, take, drop, Ok, Err, Result, nat_le}
use Rattle.std.specs.Borrow.{MutBor}
use Rattle.std.specs.Coded.{×_prop, Unit-prop}
use Rattle.std.proofs.Common.{sym, ◌∙◌}
use native.Mathlib.Nat.{ℕ_set}
use Rattle.std.proofs.lemmas.List.{length-map}
use Rattle.sinks.specs.Refusals.{said, by_sink}
use Rattle.sinks.specs.Stores.{StoreMeaning}
use Rattle.sinks.specs.declared.fault.SinkFault.{SinkFault}
use Rattle.areas.specs.declared.place.Place.{Place}

-- the sinks over an area use 4 to 65,535 bytes
abbrev pub allowed : ℕ → Bool
allowed size = nat_le 4 size && nat_le size 65535

-- the answer of a sink's own check: 12 exactly if the area may not be used
abbrev pub Checked : ℕ → Result Unit SinkFault → Type 0
Checked size (Ok _) = allowed size ≡ true
Checked size (Err e) = (allowed size ≡ false) × (said e ≡ by_sink 12 [])

-- the bytes of an area that lie at a place, without those past its end
abbrev pub part : List ℕ → Place → List ℕ
part area p = take p.len (drop p.offset area)

-- an area with bytes over those at an offset, or as it was where they do not fit
abbrev pub laid : List ℕ → ℕ → List ℕ → List ℕ
laid area at bs = cond (nat_le (at + length bs) (length area)) (take at area ++ (bs ++ drop (at + length bs) area)) area

-- places one behind the other without gaps, the first at a given offset
abbrev pub Tiles : ℕ → List Place → Type 0
Tiles from [] = Unit {0}
Tiles from (p ∷ ps) = (p.offset ≡ from) × Tiles (p.offset + p.len) ps

pub Tiles-prop : (from : ℕ) (ps : List Place) → IsProp (Tiles from ps)
Tiles-prop from [] = Unit-prop
Tiles-prop from (p ∷ ps) = ×_prop (ℕ_set p.offset from) (Tiles-prop (p.offset + p.len) ps)

-- where the last place ends, or the given offset where there is none
abbrev pub end_of : ℕ → List Place → ℕ
end_of from [] = from
end_of from (p ∷ ps) = end_of (p.offset + p.len) ps

-- a store whose pages are what an area holds at places
abbrev pub store_of : {S : Type 0} → (S → List ℕ) → (S → List Place) → StoreMeaning S
store_of area places = record {
  pages = λ s. map (part (area s)) (places s);
  offsets = λ s. map (λ (p : Place). p.offset) (places s);
  paired = λ s. length-map (places s) (λ (p : Place). p.offset) ∙ sym (length-map (places s) (part (area s)));
}

-- two references to one memory
abbrev pub SameMemory : {X : Type 0} → MutBor X → MutBor X → Type 0
SameMemory a b = (a.ref_ptr ≡ b.ref_ptr) × (a.ghost_name ≡ b.ghost_name)

-- two that refer to the memory of a third, and hold the same, are one
pub same_ref : {X : Type 0} (r a b : MutBor X) → SameMemory a r → SameMemory b r → a.now ≡ b.now → a ≡ b
same_ref r a b x y now = λ i. record { ref_ptr = (x.0 ∙ sym y.0) i; ghost_name = (x.1 ∙ sym y.1) i; now = now i }

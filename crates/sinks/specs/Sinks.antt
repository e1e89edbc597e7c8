-- What a sink means to its writer, from docs/sinks.md.
use Rattle.std.specs.Prelude.{◌≡◌, ℕ, Bool, true, false, List, [], ◌∷◌, ◌++◌, length, Ok, Err, Result}
use Rattle.sinks.specs.Refusals.{said, by_sink}
use Rattle.sinks.specs.Stores.{StoreMeaning}
use Rattle.sinks.specs.declared.fault.SinkFault.{SinkFault}

-- the lengths that a sink would take, and what a page that is written leaves of its memory
pub record SinkMeaning (S : Type 0) : Type 1 where
  pub takes : S → ℕ → Bool
  pub leaves : S → List ℕ → S → Type 0

-- the sink s with the page p behind its others, at offset o
pub record Grown {S : Type 0} (m : StoreMeaning S) (s : S) (p : List ℕ) (o : ℕ) (s' : S) : Type 0 where
  pub pages : m.pages s' ≡ m.pages s ++ (p ∷ [])
  pub offsets : m.offsets s' ≡ m.offsets s ++ (o ∷ [])

-- the answer to a write: refused exactly if the length is not taken, and then nothing has changed
abbrev pub Written : {S : Type 0} → StoreMeaning S → SinkMeaning S → S → List ℕ → S → Result ℕ SinkFault → Type 0
Written m w s p s' (Ok o) = (w.takes s (length p) ≡ true) × Grown m s p o s' × w.leaves s p s'
Written m w s p s' (Err e) = (w.takes s (length p) ≡ false) × (s' ≡ s) × (said e ≡ by_sink 25 (length p ∷ []))

-- the answer to the question whether a length is taken
abbrev pub Asked : {S : Type 0} → SinkMeaning S → S → ℕ → Result Unit SinkFault → Type 0
Asked w s n (Ok _) = w.takes s n ≡ true
Asked w s n (Err e) = (w.takes s n ≡ false) × (said e ≡ by_sink 25 (n ∷ []))

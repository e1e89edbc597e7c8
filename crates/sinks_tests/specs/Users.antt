-- Two pages written one after the other, and the first read back, at any sink (docs/sinks.md).
use Rattle.std.specs.Prelude.{◌≡◌, ℕ, true, false, ◌⊎◌, List, [], ◌∷◌, ◌++◌, length, Ok, Err, Option, Result}
use Rattle.sinks.specs.Refusals.{said, by_sink}
use Rattle.sinks.specs.Sinks.{SinkMeaning}
use Rattle.sinks.specs.Stores.{StoreMeaning, CopyOf}
use Rattle.sinks.specs.declared.fault.SinkFault.{SinkFault}

-- what a sink holds behind both pages, and what the copy of the first is
pub record Both {S : Type 0} (m : StoreMeaning S) (s : S) (p q out : List ℕ) (s' : S) (out' : List ℕ) (r : Option ℕ) : Type 0 where
  pub pages : m.pages s' ≡ m.pages s ++ (p ∷ q ∷ [])
  pub copy : CopyOf p out out' r

-- the first page is refused and nothing has changed, or the second is and the first stays
abbrev pub OneRefused : {S : Type 0} → StoreMeaning S → SinkMeaning S → S → List ℕ → List ℕ → S → SinkFault → Type 0
OneRefused m w s p q s' e =
    ((w.takes s (length p) ≡ false) × (s' ≡ s) × (said e ≡ by_sink 25 (length p ∷ [])))
    ⊎ ((w.takes s (length p) ≡ true) × (said e ≡ by_sink 25 (length q ∷ [])) × (m.pages s' ≡ m.pages s ++ (p ∷ [])))

abbrev pub WroteTwo : {S : Type 0} → StoreMeaning S → SinkMeaning S → S → List ℕ → List ℕ → List ℕ → S → List ℕ → Result (Option ℕ) SinkFault → Type 0
WroteTwo m w s p q out s' out' (Ok r) = (w.takes s (length p) ≡ true) × Both m s p q out s' out' r
WroteTwo m w s p q out s' out' (Err e) = (out' ≡ out) × OneRefused m w s p q s' e

-- the first page comes back whole, if both were taken
abbrev pub ReadBack : List ℕ → List ℕ → List ℕ → Result (Option ℕ) SinkFault → Type 0
ReadBack p out out' (Ok r) = CopyOf p out out' r
ReadBack p out out' (Err e) = out' ≡ out

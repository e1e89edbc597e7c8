-- What a page layer's call to a sink gives, from docs/pages.md.
use Rattle.std.specs.Prelude.{◌≡◌, ℕ, true, false, List, length, Ok, Err, Result}
use Rattle.sinks.specs.Stores.{StoreMeaning}
use Rattle.sinks.specs.Sinks.{SinkMeaning, Grown}
use Rattle.sinks.specs.declared.fault.SinkFault.TheVariants.{Full}
use Rattle.pages.specs.declared.fault.PageFault.{PageFault}
use Rattle.pages.specs.declared.fault.PageFault.TheVariants.{Sink}

-- whether a sink takes a page of a length: if not, the fault holds the sink's own
abbrev pub PageAsked : {S : Type 0} → SinkMeaning S → S → ℕ → Result Unit PageFault → Type 0
PageAsked w s n (Ok _) = w.takes s n ≡ true
PageAsked w s n (Err e) = (w.takes s n ≡ false) × (e ≡ Sink (Full n))

-- a page written to a sink: it stands behind the others at the answered offset, or nothing has changed and the fault holds the sink's own
abbrev pub PageWritten : {S : Type 0} → StoreMeaning S → SinkMeaning S → S → List ℕ → S → Result ℕ PageFault → Type 0
PageWritten m w s p s' (Ok o) = (w.takes s (length p) ≡ true) × Grown m s p o s' × w.leaves s p s'
PageWritten m w s p s' (Err e) = (w.takes s (length p) ≡ false) × (s' ≡ s) × (e ≡ Sink (Full (length p)))

-- What the refusals of the sink layer say, from docs/sinks.md.
use Rattle.std.specs.Prelude.{ℕ, List, [], ◌∷◌, ◌++◌, codes}
use Rattle.std.specs.Fmt.{decimal}
use Rattle.sinks.specs.declared.fault.Layer.{Layer}
use Rattle.sinks.specs.declared.fault.Layer.TheVariants.{Sink}
use Rattle.sinks.specs.declared.fault.SinkFault.{SinkFault}
use Rattle.sinks.specs.declared.fault.SinkFault.TheVariants.{Area, Full}

-- a refusal names its number, the layer it began in, a position, and the values it holds
pub record Refusal : Type 0 where
  pub number : ℕ
  pub layer : Layer
  pub position : ℕ
  pub values : List ℕ

-- one of the sink layer, which has no position
abbrev pub by_sink : ℕ → List ℕ → Refusal
by_sink n vs = record { number = n; layer = Sink; position = 0; values = vs }

-- 12 is the sink's area, 25 a length that the sink does not take
abbrev pub said : SinkFault → Refusal
said Area = by_sink 12 []
said (Full n) = by_sink 25 (n ∷ [])

-- the same in words
abbrev pub message : SinkFault → List ℕ
message Area = codes "the area has a size that the sink does not use"
message (Full n) = codes "the sink does not take a page of " ++ decimal n ++ codes " bytes"

-- A fault is the case whose number and values it says.
use Rattle.std.proofs.Common.{◌≡◌, ℕ, [], ◌∷◌, get_or, ap, arith}
use Rattle.sinks.specs.Refusals.{Refusal, said, by_sink}
use Rattle.sinks.specs.declared.fault.SinkFault.{SinkFault}
use Rattle.sinks.specs.declared.fault.SinkFault.TheVariants.{Area, Full}

pub full_from_said : (e : SinkFault) (n : ℕ) → said e ≡ by_sink 25 (n ∷ []) → e ≡ Full n
full_from_said Area n h = absurd (omega (arith, ap (λ (r : Refusal). r.number) h))
full_from_said (Full m) n h = ap Full (ap (λ (r : Refusal). get_or r.values 0 0) h)

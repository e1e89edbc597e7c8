-- When a vat may be released: on its smallest hold temperature.
use Rattle.std.specs.Prelude.{ℕ, cond, List, Some, None, Option}
use Rattle.kinds.specs.Meaning.{greater}
use Rattle.figures.specs.Figures.{smallest}
use Rattle.floats.specs.Floats.{double}
use Rattle.release.specs.declared.decision.Decision.{Decision}
use Rattle.release.specs.declared.decision.Decision.TheVariants.{Released, NoReading, ProbeFailed, BelowLimit}

-- released if the smallest hold temperature is a number and the limit is not greater; NaN is the smallest only
-- where every reading failed
abbrev pub decided_on : List ℕ → Option (List ℕ) → Decision
decided_on limit None = NoReading
decided_on limit (Some v) = cond (double.nan v) ProbeFailed (cond (greater double limit v) BelowLimit Released)

abbrev pub decided : List ℕ → List (List ℕ) → Decision
decided limit vs = decided_on limit (smallest double vs)

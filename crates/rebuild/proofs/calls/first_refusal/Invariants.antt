use Rattle.std.proofs.Common.{◌≡◌, drop}
use Rattle.runs.specs.Runs.{answers_in}
use Rattle.rebuild.specs.Readings.{first_refusal}
use Rattle.rebuild.proofs.calls.first_refusal.Given as goal

abbrev pub invariant-loop-played : goal.invariant-loop-played
invariant-loop-played l = first_refusal (answers_in l.calls) ≡ first_refusal (answers_in (drop l.played-index l.calls))

-- A page that was built stands at the front of the scratch.
use Rattle.std.proofs.Common.{◌≡◌, ℕ, ◌≤◌, List, length, Some, None, Option, Ok, Result, ap, ◌∙◌, arith}
use Rattle.kinds.specs.Plain.{Laid}
use Rattle.std.specs.Option.{ok_or}
use Rattle.refusals.specs.declared.fault.ChunkFault.{ChunkFault}
use Rattle.chunk.specs.Calls.{scratched}

-- what building a page of these bytes answers
pub built : (bs out out' : List ℕ) (r : Option ℕ) (q : Result ℕ ChunkFault) (f : ChunkFault) → length bs ≤ 9227
    → Laid bs out out' r → 9227 ≤ length out → q ≡ ok_or r f → (q ≡ Ok (length bs)) × (out' ≡ scratched bs 1 out)
built bs out out' None q f few laid room e = absurd (omega (arith, laid.0))
built bs out out' (Some n) q f few laid room e = (e ∙ ap (λ k. Ok k) laid.0, laid.2)

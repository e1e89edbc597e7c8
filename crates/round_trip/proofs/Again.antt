-- The trip of levels from the two calls' contracts: what was written is what reading finds.
use Rattle.std.proofs.Common.{◌≡◌, ℕ, ◌≤◌, List, ◌++◌, length, drop, Some, None, Option, sym, ap, ◌∙◌, subst}
use Rattle.level_coder.specs.Coding.{Coding, Coded, Read}
use Rattle.level_coder.proofs.Trips.{begins_coded, read_coded}
use Rattle.round_trip.specs.Trips.{LevelsAgain}

pub levels_trip : (m : Coding) (b : ℕ) (ls bytes mid out out' : List ℕ) (k : ℕ) (r : Option ℕ) → Coded m b ls bytes mid (Some k) → Read m b (length ls) mid out out' r
    → LevelsAgain m b ls bytes mid out out' r
levels_trip m b ls bytes mid out out' k None coded (same, refused) =
    (same, (Some k, coded), λ _ _ fits. refused fits ls (begins_coded m b ls (drop k bytes) mid coded.1 coded.3))
levels_trip m b ls bytes mid out out' k (Some j) (size, a, room, e) d =
    let again = read_coded m b ls (drop k bytes) mid out out' (Some j) a e d.1 d in
    let same : j ≡ k = d.0 ∙ sym size in
    ((d.0, a, subst (λ i. i ≤ length bytes) (sym same) room, e ∙ ap (λ i. m.coded b ls ++ drop i bytes) (sym same)), d.1, again.1)

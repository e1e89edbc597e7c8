-- What coding and then reading answers: the same again, exactly if it is admitted and both lists hold it.
use Rattle.std.specs.Prelude.{◌≡◌, ℕ, ◌≤◌, true, List, ◌++◌, length, drop, Some, None, Option}
use Rattle.level_coder.specs.Coding.{Coding, Admitted, Coded}
use Rattle.body_coder.specs.Body.{Body, whole, Wrote}

-- levels, through bytes, into another list; where they do not come back, the bytes are still what coding leaves
abbrev pub LevelsAgain : Coding → ℕ → List ℕ → List ℕ → List ℕ → List ℕ → List ℕ → Option ℕ → Type 0
LevelsAgain m b ls bytes bytes' out out' None =
    (out' ≡ out) × ((r : Option ℕ) × Coded m b ls bytes bytes' r) × (Admitted b ls → m.size (length ls) b ≤ length bytes → length ls ≤ length out → ⊥)
LevelsAgain m b ls bytes bytes' out out' (Some k) = Coded m b ls bytes bytes' (Some k) × (length ls ≤ length out) × (out' ≡ ls ++ drop (length ls) out)

-- the bytes of a body, through coded ones, into another list
abbrev pub BodyAgain : Body → ℕ → List ℕ → List ℕ → List ℕ → List ℕ → List ℕ → Option ℕ → Type 0
BodyAgain m k xs mid mid' out out' None =
    (out' ≡ out) × ((r : Option ℕ) × Wrote m k xs (m.coded k xs) mid mid' r) × (whole m.joins k (length xs) ≡ true → length xs ≤ length mid → length xs ≤ length out → ⊥)
BodyAgain m k xs mid mid' out out' (Some r) = Wrote m k xs (m.coded k xs) mid mid' (Some r) × (r ≤ length out) × (out' ≡ xs ++ drop r out)

-- Values kept with their ranks.
use Rattle.std.specs.Prelude.{◌≡◌, ℕ, List}
use Rattle.figures.specs.declared.ranked.Ranked.{Ranked}

-- the rank that is kept is the value's own
abbrev pub HasItsRank : {V : Type 0} → (List ℕ → ℕ) → (V → List ℕ) → Ranked V → Type 0
HasItsRank rank bytes r = r.rank ≡ rank (bytes r.value)

-- Where a coder's list stands.
use Rattle.std.specs.Prelude.{◌≡◌, ℕ, List, Some, None, Option}
use Rattle.levels.specs.declared.list.LevelList.{LevelList}
use Rattle.levels.specs.Lists.{Limits}

-- n levels of b bits behind a front, in len bytes, exactly if a coder takes so many
abbrev pub LaidOut : List ℕ → ℕ → ℕ → ℕ → Option LevelList → Type 0
LaidOut front len n b None = Limits n b → ⊥
LaidOut front len n b (Some l) = Limits n b × (l.header ≡ front) × (l.n ≡ n) × (l.b ≡ b) × (l.len ≡ len)

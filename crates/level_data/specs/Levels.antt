-- What borrowed levels stand for: a list, or none where they are absent.
use Rattle.std.specs.Prelude.{◌≡◌, ℕ, ◌+◌, ◌≤◌, Bool, false, List, [], length, take, drop, replicate, ℤ, pos, negsuc, Some, None, count_by, Option, ◌==◌}
use Rattle.std.specs.Option.{unwrap_or, option_map}
use Rattle.level_data.specs.declared.levels_ref.LevelDataRef.{LevelDataRef}
use Rattle.level_data.specs.declared.levels_ref.LevelDataRef.TheVariants.{Absent, Materialized, Uniform}

-- the levels; a repeated value with a count is a list of that length
abbrev pub levels_of : LevelDataRef → Option (List ℤ)
levels_of Absent = None
levels_of (Materialized levels) = Some levels.now
levels_of (Uniform value count) = Some (replicate count value)

-- the same as a list, empty where levels are absent
abbrev pub listed : LevelDataRef → List ℤ
listed d = unwrap_or (levels_of d) []

-- two levels are the same
abbrev pub same : ℤ → ℤ → Bool
same (pos a) (pos b) = a == b
same (pos a) (negsuc b) = false
same (negsuc a) (pos b) = false
same (negsuc a) (negsuc b) = a == b

-- how many levels have a value: those at the maximum, and all where levels are absent
abbrev pub value_count : ℕ → ℤ → Option (List ℤ) → ℕ
value_count total max None = total
value_count total max (Some ls) = count_by (same max) ls

-- whether there are so many levels behind the offset; absent levels are behind any
abbrev pub Reaches : ℕ → ℕ → Option (List ℤ) → Type 0
Reaches offset len None = Unit {0}
Reaches offset len (Some ls) = offset + len ≤ length ls

-- what slicing answers: as many of the levels as are asked for, exactly if they are there
abbrev pub Sliced : LevelDataRef → ℕ → ℕ → Option LevelDataRef → Type 0
Sliced d offset len None = Reaches offset len (levels_of d) → ⊥
Sliced d offset len (Some s) = Reaches offset len (levels_of d) × (levels_of s ≡ option_map (λ ls. take len (drop offset ls)) (levels_of d))

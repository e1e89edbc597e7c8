-- A batch as it is given, what it takes, and what it is refused for.
use Rattle.std.specs.Prelude.{◌≡◌, ℕ, ◌≤◌, Bool, true, false, cond, not, ◌&&◌, ◌||◌, List, [], ◌∷◌, ◌++◌, map, length, take, replicate, ℤ, pos, negsuc, is_some, count_by, Option, ◌==◌, int_le, nat_eq, nat_lt}
use Rattle.std.specs.Option.{unwrap_or}
use Rattle.std.specs.List.{prefix_len, AllByRecursion}
use Rattle.kinds.specs.Plain.{sized}
use Rattle.level_data.specs.Levels.{same}
use Rattle.pages.specs.declared.fault.PageFault.TheVariants.{PlainBytes}
use Rattle.refusals.specs.Refusals.{Test, refuses}
use Rattle.refusals.specs.declared.fault.ChunkFault.TheVariants.{BatchLevels, LevelsAbsent, LevelCount, LevelRange, FirstRepetition, FewValues, ValueLength, Page as OfPage}
use Rattle.pages.specs.declared.layout.Layout.{Layout}
use Rattle.ledger.specs.Pages.{Page, plains}

-- a batch's arguments: a level count, values, and levels, which may be absent
pub record Batch : Type 0 where
  pub count : ℕ
  pub values : List (List ℕ)
  pub defs : Option (List ℤ)
  pub reps : Option (List ℤ)

abbrev pub natural : ℤ → ℕ
natural (pos n) = n
natural (negsuc n) = 0

-- n levels: those given or, where the maximum is 0, each 0, whatever was given
abbrev pub levels_at : ℕ → ℕ → Option (List ℤ) → List ℕ
levels_at most n given = cond (most == 0) (replicate n 0) (map natural (unwrap_or given []))

abbrev pub reps_of : Layout → Batch → List ℕ
reps_of l b = levels_at l.max_rep_level b.count b.reps

abbrev pub defs_of : Layout → Batch → List ℕ
defs_of l b = levels_at l.max_def_level b.count b.defs

-- a value is needed for each definition level of the maximum
abbrev pub needed : Layout → Batch → ℕ
needed l b = count_by (nat_eq l.max_def_level) (defs_of l b)

-- the values that a batch takes: the first ones needed, and no others are looked at
abbrev pub values_of : Layout → Batch → List (List ℕ)
values_of l b = take (needed l b) b.values

-- what a batch adds to a page
abbrev pub taken : Layout → Batch → Page
taken l b = record { reps = reps_of l b; defs = defs_of l b; values = values_of l b }

-- the levels that are looked at: none where the maximum is 0
abbrev pub looked_at : ℕ → Option (List ℤ) → List ℤ
looked_at most given = cond (most == 0) [] (unwrap_or given [])

-- levels that are wanted and were not given
abbrev pub absent : ℕ → Option (List ℤ) → Bool
absent most given = not (most == 0) && not (is_some given)

-- levels that are wanted, of which none was given
abbrev pub empty : ℕ → Option (List ℤ) → Bool
empty most given = not (most == 0) && length (unwrap_or given []) == 0

-- levels that are wanted, of which another number was given
abbrev pub miscounted : ℕ → ℕ → Option (List ℤ) → Bool
miscounted most n given = not (most == 0) && not (length (unwrap_or given []) == n)

abbrev pub in_range : ℕ → ℤ → Bool
in_range most x = int_le (pos 0) x && int_le x (pos most)

-- where the first level out of range stands, if there is one
abbrev pub stray_place : ℕ → Option (List ℤ) → ℕ
stray_place most given = prefix_len (in_range most) (looked_at most given)

abbrev pub stray : ℕ → Option (List ℤ) → Bool
stray most given = nat_lt (stray_place most given) (length (looked_at most given))

-- a list whose first level is not 0
abbrev pub late : List ℤ → Bool
late [] = false
late (x ∷ xs) = not (same (pos 0) x)

-- where the first value of wrong length stands, if there is one
abbrev pub unsized_place : ℕ → List (List ℕ) → ℕ
unsized_place w vs = prefix_len (sized w) vs

abbrev pub unsized : ℕ → List (List ℕ) → Bool
unsized w vs = nat_lt (unsized_place w vs) (length vs)

-- what a batch is refused for by itself, in order; of levels out of range the first, among definition levels first
abbrev pub level_tests : Layout → Batch → List Test
level_tests l b =
    refuses (nat_lt 256 b.count) BatchLevels
    ∷ refuses (absent l.max_def_level b.defs || empty l.max_rep_level b.reps) LevelsAbsent
    ∷ refuses (miscounted l.max_def_level b.count b.defs || miscounted l.max_rep_level b.count b.reps) LevelCount
    ∷ refuses (stray l.max_def_level b.defs) (LevelRange (stray_place l.max_def_level b.defs))
    ∷ refuses (stray l.max_rep_level b.reps) (LevelRange (stray_place l.max_rep_level b.reps))
    ∷ refuses (late (looked_at l.max_rep_level b.reps)) FirstRepetition
    ∷ []

-- what the values it needs are refused for
abbrev pub value_tests : Layout → Batch → List Test
value_tests l b =
    refuses (nat_lt (length b.values) (needed l b)) FewValues
    ∷ refuses (unsized l.width (values_of l b)) (ValueLength (unsized_place l.width (values_of l b)))
    ∷ refuses (nat_lt 4096 (length (plains l.width (values_of l b)))) (OfPage PlainBytes)
    ∷ []

-- all that a batch is refused for by itself
abbrev pub intake_tests : Layout → Batch → List Test
intake_tests l b = level_tests l b ++ value_tests l b

-- what is known of a batch that is not refused by itself
pub record Admitted (l : Layout) (b : Batch) : Type 0 where
  pub few : b.count ≤ 256
  pub rep_count : length (reps_of l b) ≡ b.count
  pub def_count : length (defs_of l b) ≡ b.count
  pub rep_range : AllByRecursion (λ x. x ≤ l.max_rep_level) (reps_of l b)
  pub def_range : AllByRecursion (λ x. x ≤ l.max_def_level) (defs_of l b)
  pub enough : needed l b ≤ length b.values
  pub sizes : AllByRecursion (λ v. sized l.width v ≡ true) (values_of l b)
  pub light : length (plains l.width (values_of l b)) ≤ 4096

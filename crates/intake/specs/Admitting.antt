-- A batch as it comes, and what admitting it answers.
use Rattle.std.specs.Prelude.{ℕ, ◌-◌, ◌^◌, min, cond, List, [], ◌∷◌, map, length, ℤ, Some, None, Ok, Option, Result}
use Rattle.level_data.specs.Levels.{levels_of}
use Rattle.pages.specs.declared.layout.Layout.{Layout}
use Rattle.refusals.specs.Refusals.{tested, refuses, Numbered}
use Rattle.refusals.specs.declared.fault.ChunkFault.{ChunkFault}
use Rattle.refusals.specs.declared.fault.ChunkFault.TheVariants.{ValueLength}
use Rattle.ledger.specs.Pages.{plains}
use Rattle.ledger.specs.Batches.{Batch, needed, values_of, stray, stray_place, unsized, unsized_place, level_tests, value_tests, intake_tests}
use Rattle.ledger.specs.Numbers.{intake_order}
use Rattle.intake.specs.declared.batch.Batch.{Batch as Lent}
use Rattle.intake.specs.declared.intake.Intake.{Intake}

-- a batch as it comes, its values by their bytes
abbrev pub batch_of : {V : Type 0} → (V → List ℕ) → Lent V → Batch
batch_of bytes b = record { count = b.count; values = map bytes b.values.now; defs = levels_of b.defs; reps = levels_of b.reps }

-- what a batch needs: so many values, of so many plain bytes
abbrev pub intake_of : Layout → Batch → Intake
intake_of l b = record { values = needed l b; plain = length (plains l.width (values_of l b)) }

-- the answer to a batch by itself: the first refusal that it meets, or what it needs
abbrev pub admission : Layout → Batch → Result Intake ChunkFault
admission l b = tested (intake_tests l b) (Ok (intake_of l b))

-- any batch by itself is tested in the order of its refusals, and refused for one of them
pub record AdmitNumbered : Type 0 where
  pub each : (l : Layout) (b : Batch) → Numbered (intake_tests l b) (admission l b) (intake_order l b)

-- the answer to its levels alone
abbrev pub level_admission : Layout → Batch → Result Unit ChunkFault
level_admission l b = tested (level_tests l b) (Ok tt)

-- the answer to its values alone
abbrev pub value_admission : Layout → Batch → Result Intake ChunkFault
value_admission l b = tested (value_tests l b) (Ok (intake_of l b))

-- where the first level out of range stands, absent if there is none
abbrev pub first_stray : ℕ → Option (List ℤ) → Option ℕ
first_stray most given = cond (stray most given) (Some (stray_place most given)) None

-- the plain bytes of values, counted as far as 64 bits go, or the refusal of the first value of wrong length
abbrev pub weighed : ℕ → List (List ℕ) → Result ℕ ChunkFault
weighed w vs = tested (refuses (unsized w vs) (ValueLength (unsized_place w vs)) ∷ []) (Ok (min (length (plains w vs)) (2 ^ 64 - 1)))

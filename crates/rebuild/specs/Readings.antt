-- Readings as a column takes them: a null where one is missing, and else a DOUBLE.
use Rattle.std.specs.Prelude.{ℕ, ◌+◌, Bool, List, [], ◌∷◌, ◌++◌, map, length, replicate, pos, Some, None, Option, ◌==◌}
use Rattle.std.specs.List.{flat_map}
use Rattle.std.specs.Option.{option_or}
use Rattle.std.specs.Result.{result_err}
use Rattle.floats.specs.declared.bits.Bits.{Bits}
use Rattle.columns.specs.declared.column.Column.{Column}
use Rattle.refusals.specs.declared.fault.ChunkFault.{ChunkFault}
use Rattle.ledger.specs.Pages.{Page}
use Rattle.ledger.specs.Batches.{Batch}
use Rattle.ledger.specs.Ledger.{Call, Answer, batch, close, batched, ended}
use Rattle.words.specs.Words.{eight}

-- a hold temperature's bytes
abbrev pub hold_bytes : Bits ℕ → List ℕ
hold_bytes v = eight v.0

-- the definition level of a reading, and the values that it has
abbrev pub reading_level : Option (Bits ℕ) → ℕ
reading_level None = 0
reading_level (Some v) = 1

abbrev pub reading_values : Option (Bits ℕ) → List (List ℕ)
reading_values None = []
reading_values (Some v) = hold_bytes v ∷ []

-- the column that they are written to
abbrev pub readings_column : Column
readings_column = record { width = 8; max_def_level = pos 1; max_rep_level = pos 0 }

-- readings as one page, whose rows they are
abbrev pub readings_page : List (Option (Bits ℕ)) → Page
readings_page hs = record { reps = replicate (length hs) 0; defs = map reading_level hs; values = flat_map reading_values hs }

-- a reading as a batch of one level, and the call that writes it
abbrev pub reading_batch : Option (Bits ℕ) → Batch
reading_batch h = record { count = 1; values = reading_values h; defs = Some (pos (reading_level h) ∷ []); reps = None }

abbrev pub reading_call : Option (Bits ℕ) → Call
reading_call h = batch (reading_batch h)

-- the calls that write readings to a chunk, one by one, and then the close
abbrev pub readings_calls : List (Option (Bits ℕ)) → List Call
readings_calls hs = map reading_call hs ++ (close ∷ [])

-- a list of calls has one place for each reading and one for the close, and no more
abbrev pub has_places : {A : Type 0} → List A → List (Option (Bits ℕ)) → Bool
has_places cs hs = length cs == length hs + 1

-- what an answer refuses, and the first refusal of answers in a row
abbrev pub refusal_in : Answer → Option ChunkFault
refusal_in (batched r) = result_err r
refusal_in (ended r) = result_err r

abbrev pub first_refusal : List Answer → Option ChunkFault
first_refusal [] = None
first_refusal (r ∷ rs) = option_or (refusal_in r) (first_refusal rs)

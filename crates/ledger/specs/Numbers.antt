-- The refusals of each call, in the order in which it tests for them, and that it is refused for no other.
use Rattle.std.specs.Prelude.{◌≡◌, ℕ, Bool, cond, List, [], ◌∷◌, ◌++◌, length, Contains, Ok, Err, ◌==◌}
use Rattle.sinks.specs.Refusals.{Refusal, by_sink}
use Rattle.pages.specs.Refusals.{by_page}
use Rattle.pages.specs.declared.layout.Layout.{Layout}
use Rattle.refusals.specs.Refusals.{by_chunk, by_chunk_at, Numbered}
use Rattle.refusals.specs.declared.done.BatchDone.{BatchDone}
use Rattle.refusals.specs.declared.fault.ChunkFault.{ChunkFault}
use Rattle.ledger.specs.Pages.{levels}
use Rattle.ledger.specs.Context.{Context, layout, bytes}
use Rattle.ledger.specs.Batches.{Batch, values_of, stray_place, unsized_place}
use Rattle.ledger.specs.Ledger.{Ledger}
use Rattle.ledger.specs.Answers.{page_tests, written, end_tests, end_answer, batch_tests, batch_answer, done, read_tests, read_answer, entry_tests, entry_answer, record_tests, record_answer}

-- the refusals of a batch by itself: 7 of the first definition level out of range, then of the first repetition level
abbrev pub intake_order : Layout → Batch → List Refusal
intake_order l b =
    by_chunk 4 ∷ by_chunk 5 ∷ by_chunk 6
    ∷ by_chunk_at 7 (stray_place l.max_def_level b.defs)
    ∷ by_chunk_at 7 (stray_place l.max_rep_level b.reps)
    ∷ by_chunk 8 ∷ by_chunk 9
    ∷ by_chunk_at 10 (unsized_place l.width (values_of l b))
    ∷ by_page 11
    ∷ []

-- the refusals of a batch
abbrev pub batch_order : Layout → Batch → List Refusal
batch_order l b = by_chunk 21 ∷ by_chunk 22 ∷ by_page 3 ∷ (intake_order l b ++ (by_page 23 ∷ []))

-- the refusals of writing a page of that length
abbrev pub write_order : ℕ → List Refusal
write_order size = by_chunk 24 ∷ by_sink 25 (size ∷ []) ∷ []

-- the refusals of cut and close, the last two with a page that is not empty
abbrev pub end_order : Context → Ledger → List Refusal
end_order x l = by_chunk 21 ∷ by_page 3 ∷ cond (levels l.page == 0) [] (write_order (length (bytes x l.page)))

-- the refusals of reading a page
abbrev pub read_order : List Refusal
read_order = by_page 27 ∷ by_page 13 ∷ []

-- the refusal of asking for an entry
abbrev pub entry_order : List Refusal
entry_order = by_page 27 ∷ []

-- the refusal of asking for the record
abbrev pub record_order : List Refusal
record_order = by_chunk 26 ∷ []

-- any batch is tested and refused so; a page that is not written waits for 24 or 25, and what a batch answers is that or 0
pub record BatchNumbered : Type 0 where
  pub each : (x : Context) (takes : ℕ → Bool) (room : ℕ) (l : Ledger) (b : Batch) → Numbered (batch_tests x room l b) (batch_answer x takes room l b) (batch_order (layout x) b)
  pub waits : (x : Context) (takes : ℕ → Bool) (l : Ledger) (n : ℕ) (e : ChunkFault) → written x takes l ≡ Err e → Contains (24 ∷ 25 ∷ []) (done n (Err e)).waiting
  pub stands :
      (x : Context) (takes : ℕ → Bool) (room : ℕ) (l : Ledger) (b : Batch) (d : BatchDone) → batch_answer x takes room l b ≡ Ok d → Contains (0 ∷ 24 ∷ 25 ∷ []) d.waiting

-- any cut and any close is tested and refused so
pub record EndNumbered : Type 0 where
  pub each : (x : Context) (takes : ℕ → Bool) (room : ℕ) (l : Ledger) → Numbered (end_tests l room ++ page_tests x takes l) (end_answer x takes room l) (end_order x l)

-- so is any read
pub record ReadNumbered : Type 0 where
  pub each : (x : Context) (l : Ledger) (k reps defs plain : ℕ) → Numbered (read_tests x l k reps defs plain) (read_answer x l k reps defs plain) read_order

-- so is asking for any entry
pub record EntryNumbered : Type 0 where
  pub each : (x : Context) (l : Ledger) (offset k : ℕ) → Numbered (entry_tests l k) (entry_answer x l offset k) entry_order

-- so is asking for the record
pub record RecordNumbered : Type 0 where
  pub each : (x : Context) (l : Ledger) → Numbered (record_tests l) (record_answer x l) record_order

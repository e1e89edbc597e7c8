-- The answers fixed for every call, by what the chunk was opened with, its ledger and what the sink takes.
use Rattle.std.specs.Prelude.{ℕ, ◌+◌, Bool, cond, not, ◌||◌, List, [], ◌∷◌, ◌++◌, length, drop, Ok, Err, Result, ◌==◌, nat_le, nat_lt, slice_index_or}
use Rattle.sinks.specs.declared.fault.SinkFault.TheVariants.{Full}
use Rattle.pages.specs.declared.fault.PageFault.TheVariants.{Scratch, Levels, ReadLists, NoPage, Sink}
use Rattle.pages.specs.declared.counts.PageCounts.{PageCounts}
use Rattle.refusals.specs.Refusals.{Test, refuses, tested, said_chunk}
use Rattle.refusals.specs.declared.done.BatchDone.{BatchDone}
use Rattle.refusals.specs.declared.fault.ChunkFault.{ChunkFault}
use Rattle.refusals.specs.declared.fault.ChunkFault.TheVariants.{Closed, PageWaits, Pages, NoRecord, Page as OfPage}
use Rattle.ledger.specs.Pages.{Page, blank, levels}
use Rattle.ledger.specs.Context.{Context, layout, plain_bytes, bytes, due}
use Rattle.ledger.specs.Batches.{Batch, taken, needed, intake_tests}
use Rattle.ledger.specs.Ledger.{Ledger, is_open, has_record, adds}
use Rattle.ledger.specs.Entries.{Entry, entry, first_row}
use Rattle.ledger.specs.Records.{Record, chunk_record}

-- what writing a page that is not empty is refused for, with so many pages written: 64 pages, or its length
abbrev pub write_tests : (ℕ → Bool) → ℕ → ℕ → List Test
write_tests takes pages size = refuses (nat_le 64 pages) Pages ∷ refuses (not (takes size)) (OfPage (Sink (Full size))) ∷ []

-- what writing the open page is refused for: nothing where it is empty
abbrev pub page_tests : Context → (ℕ → Bool) → Ledger → List Test
page_tests x takes l = cond (levels l.page == 0) [] (write_tests takes (length l.pages) (length (bytes x l.page)))

-- writing the open page: 0 where it is empty, else 1
abbrev pub written : Context → (ℕ → Bool) → Ledger → Result ℕ ChunkFault
written x takes l =
    cond (levels l.page == 0) (Ok 0) (tested (write_tests takes (length l.pages) (length (bytes x l.page))) (Ok 1))

-- what cut and close test first: that the chunk is open, and the scratch
abbrev pub end_tests : Ledger → ℕ → List Test
end_tests l room = refuses (not (is_open l.phase)) Closed ∷ refuses (nat_lt room 9227) (OfPage Scratch) ∷ []

-- cut and close answer the pages written
abbrev pub end_answer : Context → (ℕ → Bool) → ℕ → Ledger → Result ℕ ChunkFault
end_answer x takes room l = tested (end_tests l room) (written x takes l)

-- a batch is refused on a chunk that is closed or has a due page, by the scratch, by itself, and if the page would have
-- more than 1,024 levels
abbrev pub batch_tests : Context → ℕ → Ledger → Batch → List Test
batch_tests x room l b =
    refuses (not (is_open l.phase)) Closed
    ∷ refuses (due x l.page) PageWaits
    ∷ refuses (nat_lt room 9227) (OfPage Scratch)
    ∷ (intake_tests (layout x) b
    ++ (refuses (nat_lt 1024 (levels l.page + b.count)) (OfPage Levels) ∷ []))

-- a due page that could not be written waits, and the batch answers the number of the refusal
abbrev pub done : ℕ → Result ℕ ChunkFault → BatchDone
done n (Ok k) = record { values = n; pages_cut = k; waiting = 0 }
done n (Err f) = record { values = n; pages_cut = 0; waiting = (said_chunk f).number }

-- what a batch that stands answers: a page that is then due is written
abbrev pub settled : Context → (ℕ → Bool) → Ledger → Batch → BatchDone
settled x takes l b =
    cond (due x (adds l (taken (layout x) b)).page) (done (needed (layout x) b) (written x takes (adds l (taken (layout x) b)))) (done (needed (layout x) b) (Ok 0))

abbrev pub batch_answer : Context → (ℕ → Bool) → ℕ → Ledger → Batch → Result BatchDone ChunkFault
batch_answer x takes room l b = tested (batch_tests x room l b) (Ok (settled x takes l b))

-- what is read of a list of levels: nothing where the maximum is 0
abbrev pub levels_read : ℕ → List ℕ → List ℕ
levels_read most ls = cond (most == 0) [] ls

-- three lists of which one that is used is too short for what is read of a page
abbrev pub tight : Context → Page → ℕ → ℕ → ℕ → Bool
tight x p reps defs plain =
    nat_lt reps (length (levels_read (layout x).max_rep_level p.reps))
    || (nat_lt defs (length (levels_read (layout x).max_def_level p.defs)) || nat_lt plain (length (plain_bytes x p)))

abbrev pub read_counts : Context → Page → PageCounts
read_counts x p = record { levels = levels p; values = length p.values; bytes = length (plain_bytes x p) }

-- what reading page k into lists of these lengths tests
abbrev pub read_tests : Context → Ledger → ℕ → ℕ → ℕ → ℕ → List Test
read_tests x l k reps defs plain =
    refuses (nat_le (length l.pages) k) (OfPage NoPage)
    ∷ refuses (tight x (slice_index_or l.pages k blank) reps defs plain) (OfPage ReadLists)
    ∷ []

-- reading page k into lists of these lengths
abbrev pub read_answer : Context → Ledger → ℕ → ℕ → ℕ → ℕ → Result PageCounts ChunkFault
read_answer x l k reps defs plain = tested (read_tests x l k reps defs plain) (Ok (read_counts x (slice_index_or l.pages k blank)))

-- a list after a read: what was read at its front, the rest as it was
abbrev pub read_into : Result PageCounts ChunkFault → List ℕ → List ℕ → List ℕ
read_into (Ok n) front old = front ++ drop (length front) old
read_into (Err f) front old = old

-- what asking for an entry tests
abbrev pub entry_tests : Ledger → ℕ → List Test
entry_tests l k = refuses (nat_le (length l.pages) k) (OfPage NoPage) ∷ []

-- the entry of page k, which lies at that offset
abbrev pub entry_answer : Context → Ledger → ℕ → ℕ → Result Entry ChunkFault
entry_answer x l offset k = tested (entry_tests l k) (Ok (entry x offset (first_row l.pages k) (slice_index_or l.pages k blank)))

-- what asking for the record tests
abbrev pub record_tests : Ledger → List Test
record_tests l = refuses (not (has_record l.phase)) NoRecord ∷ []

-- the record, once the chunk is closed
abbrev pub record_answer : Context → Ledger → Result Record ChunkFault
record_answer x l = tested (record_tests l) (Ok (chunk_record x l.pages))

-- What the calls that only read a chunk answer, from docs/RULES.md.
use Rattle.std.specs.Prelude.{◌≡◌, ℕ, ◌+◌, ◌<◌, List, length, drop, IfOk, Some, Ok, Err, Option, Result, sum_by, slice_index_or}
use Rattle.columns.specs.declared.settings.Mode.TheVariants.{Page as PageMode}
use Rattle.pages.specs.Reading.{PageRead}
use Rattle.refusals.specs.declared.fault.ChunkFault.{ChunkFault}
use Rattle.pages.specs.declared.counts.PageCounts.{PageCounts}
use Rattle.ledger.specs.Pages.{Page, blank, joined, nulls}
use Rattle.ledger.specs.Context.{Context, layout, plain_bytes}
use Rattle.ledger.specs.Figures.{figures}
use Rattle.ledger.specs.Ledger.{Ledger, input}
use Rattle.ledger.specs.Entries.{Entry, entry_list}
use Rattle.ledger.specs.Records.{Record}
use Rattle.ledger.specs.ChunkLaws.{EntrySays, RecordSays, marked_nulls}
use Rattle.ledger.specs.Answers.{levels_read, entry_answer, record_answer, read_answer, read_into}
use Rattle.chunk.specs.Histories.{Before, History}

-- an answer as the ledger has it
abbrev pub answered : {A B : Type 0} → (A → B) → Result A ChunkFault → Result B ChunkFault
answered f (Ok a) = Ok (f a)
answered f (Err e) = Err e

-- where page k of a chunk lies: the sink's page of that number behind those that it had before
abbrev pub offset_of : Before → List ℕ → ℕ → ℕ
offset_of o offsets k = slice_index_or offsets (length o.pages + k) 0

abbrev pub page_of : Ledger → ℕ → Page
page_of l k = slice_index_or l.pages k blank

-- what the entry of page k answers: the page's, wherever it lies, and what it says of the page
pub record EnteredBy (h : History) (off k : ℕ) (r : Result Entry ChunkFault) : Type 0 where
  pub answer : r ≡ entry_answer h.context h.ledger off k
  pub says : IfOk r (λ e. EntrySays h.context h.ledger.pages k e)

-- what the entries of all pages answer: one for each page, wherever it lies, with what it says of it, and null counts that add up
pub record IndexedBy (h : History) (offsets : List ℕ) (es : List Entry) : Type 0 where
  pub answer : es ≡ entry_list h.context 0 (drop (length h.before.pages) offsets) h.ledger.pages
  pub count : length es ≡ length h.ledger.pages
  pub says : (none : Entry) (k : ℕ) → k < length h.ledger.pages → EntrySays h.context h.ledger.pages k (slice_index_or es k none)
  pub null_counts : h.context.settings.mode ≡ PageMode
      → sum_by (λ e. marked_nulls e.marks) es ≡ sum_by (nulls (layout h.context).max_def_level) h.ledger.pages

-- what the record answers, and what it says of the pages written, which are then all that was taken
pub record RecordedBy (h : History) (r : Result Record ChunkFault) : Type 0 where
  pub answer : r ≡ record_answer h.context h.ledger
  pub says : IfOk r (λ q. RecordSays h.context h.ledger.pages q)
  pub joins : IfOk r (λ q. joined h.ledger.pages ≡ input h.ledger)
  pub figures : IfOk r (λ q. q.figures ≡ Rattle.ledger.specs.Figures.figures h.context.kind (layout h.context) (input h.ledger))
  -- its nulls are those of the pages added up
  pub nulls : IfOk r (λ q. q.figures.nulls ≡ sum_by (Rattle.ledger.specs.Pages.nulls (layout h.context).max_def_level) h.ledger.pages)

-- what reading page k into three lists answers, and what they then hold
pub record ReadBy (h : History) (k : ℕ) (reps defs plain : List ℕ) (r : Result PageCounts ChunkFault) (reps' defs' plain' : List ℕ) : Type 0 where
  pub answer : r ≡ read_answer h.context h.ledger k (length reps) (length defs) (length plain)
  pub repetition : reps' ≡ read_into r (levels_read (layout h.context).max_rep_level (page_of h.ledger k).reps) reps
  pub definition : defs' ≡ read_into r (levels_read (layout h.context).max_def_level (page_of h.ledger k).defs) defs
  pub values : plain' ≡ read_into r (plain_bytes h.context (page_of h.ledger k)) plain

-- where a read page comes from, in every state: its lists are what the sink's page, so numbered, gives, with the rest behind
-- as it was; a refusal leaves all three as they were
abbrev pub ReadFrom : Context → Option (List ℕ) → List ℕ → List ℕ → List ℕ → Result PageCounts ChunkFault → List ℕ → List ℕ → List ℕ → Type 0
ReadFrom x page ro dn po (Ok r) ro' dn' po' =
    (p : List ℕ) × (page ≡ Some p) × PageRead x.levels x.body (layout x) r.levels p ro dn po ro' dn' po' (Some r.bytes)
ReadFrom x page ro dn po (Err e) ro' dn' po' = (ro' ≡ ro) × (dn' ≡ dn) × (po' ≡ po)

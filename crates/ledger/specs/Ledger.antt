-- The ledger of a chunk: what its calls since opening and their answers make of it.
use Rattle.std.specs.Prelude.{ℕ, zero, suc, Bool, true, false, List, [], ◌∷◌, ◌++◌, Ok, Err, Result}
use Rattle.refusals.specs.declared.done.BatchDone.{BatchDone}
use Rattle.refusals.specs.declared.fault.ChunkFault.{ChunkFault}
use Rattle.pages.specs.declared.layout.Layout.{Layout}
use Rattle.ledger.specs.Pages.{Page, blank, join, joined}
use Rattle.ledger.specs.Batches.{Batch, taken}
use Rattle.ledger.specs.declared.phase.Phase.{Phase}
use Rattle.ledger.specs.declared.phase.Phase.TheVariants.{Open, Closed, Refused}

-- the pages written, in order, and the open page
pub record Ledger : Type 0 where
  pub pages : List Page
  pub page : Page
  pub phase : Phase

abbrev pub is_open : Phase → Bool
is_open Open = true
is_open Closed = false
is_open Refused = false

abbrev pub has_record : Phase → Bool
has_record Open = false
has_record Closed = true
has_record Refused = false

-- nothing written, and an empty page
abbrev pub fresh : Phase → Ledger
fresh f = record { pages = []; page = blank; phase = f }

-- all that was taken: the pages in order, the open one last
abbrev pub input : Ledger → Page
input l = join (joined l.pages) l.page

-- more levels and values on the open page
abbrev pub adds : Ledger → Page → Ledger
adds l p = record { pages = l.pages; page = join l.page p; phase = l.phase }

-- pages were cut, one or none: the open page gets the next number, and an empty one opens
abbrev pub turned : ℕ → Ledger → Ledger
turned zero l = l
turned (suc n) l = record { pages = l.pages ++ (l.page ∷ []); page = blank; phase = l.phase }

abbrev pub shut : Ledger → Ledger
shut l = record { pages = l.pages; page = l.page; phase = Closed }

-- a call that can change a chunk
pub data Call : Type 0 where
  batch : Batch → Call
  cut : Call
  close : Call

-- what such a call answered
pub data Answer : Type 0 where
  batched : Result BatchDone ChunkFault → Answer
  ended : Result ℕ ChunkFault → Answer

-- a batch that was not refused adds what it takes, and turns the page if it cut one
abbrev pub fed_batch : Layout → Ledger → Batch → Result BatchDone ChunkFault → Ledger
fed_batch f l b (Ok a) = turned a.pages_cut (adds l (taken f b))
fed_batch f l b (Err e) = l

abbrev pub fed_cut : Ledger → Result ℕ ChunkFault → Ledger
fed_cut l (Ok n) = turned n l
fed_cut l (Err e) = l

abbrev pub fed_close : Ledger → Result ℕ ChunkFault → Ledger
fed_close l (Ok n) = shut (turned n l)
fed_close l (Err e) = l

-- a ledger fed one call and its answer; nothing else changes it
abbrev pub fed : Layout → Ledger → Call → Answer → Ledger
fed f l (batch b) (batched r) = fed_batch f l b r
fed f l cut (ended r) = fed_cut l r
fed f l close (ended r) = fed_close l r
fed f l (batch b) (ended r) = l
fed f l cut (batched r) = l
fed f l close (batched r) = l

-- a ledger fed calls and their answers in order
abbrev pub fed_all : Layout → Ledger → List Call → List Answer → Ledger
fed_all f l [] rs = l
fed_all f l (c ∷ cs) [] = l
fed_all f l (c ∷ cs) (r ∷ rs) = fed_all f (fed f l c r) cs rs

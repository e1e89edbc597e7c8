-- The history of a chunk: what it was opened with, what its sink held then, and the ledger that its calls have fed since.
use Rattle.std.specs.Prelude.{ℕ, List}
use Rattle.sinks.specs.Stores.{StoreMeaning}
use Rattle.ledger.specs.Context.{Context, layout}
use Rattle.ledger.specs.Ledger.{Ledger, Call, Answer, fed, fed_all}
use Rattle.ledger.specs.Runs.{opened}

-- what a sink holds: pages and their offsets
pub record Before : Type 0 where
  pub pages : List (List ℕ)
  pub offsets : List ℕ

abbrev pub held : {S : Type 0} → StoreMeaning S → S → Before
held m s = record { pages = m.pages s; offsets = m.offsets s }

pub record History : Type 0 where
  pub context : Context
  pub before : Before
  pub ledger : Ledger

-- the history of a chunk that was just opened
abbrev pub begun : Context → Before → History
begun x o = record { context = x; before = o; ledger = opened x }

-- the same opening with another ledger
abbrev pub with_ledger : History → Ledger → History
with_ledger h l = record { context = h.context; before = h.before; ledger = l }

-- a history with one call more, and with calls in a row
abbrev pub and_call : History → Call → Answer → History
and_call h c r = with_ledger h (fed (layout h.context) h.ledger c r)

abbrev pub and_calls : History → List Call → List Answer → History
and_calls h cs rs = with_ledger h (fed_all (layout h.context) h.ledger cs rs)

-- What opening a chunk gives, and what a run of calls takes: that of its batches which were not refused, in order.
use Rattle.std.specs.Prelude.{List, [], ◌∷◌, Ok, Err, cond}
use Rattle.pages.specs.declared.layout.Layout.{Layout}
use Rattle.ledger.specs.Pages.{Page, blank, join}
use Rattle.ledger.specs.Batches.{Batch, taken}
use Rattle.ledger.specs.Context.{Context, accepted}
use Rattle.ledger.specs.Ledger.{Ledger, Call, Answer, batch, cut, close, batched, ended, fresh}
use Rattle.ledger.specs.declared.phase.Phase.{Phase}
use Rattle.ledger.specs.declared.phase.Phase.TheVariants.{Open, Refused}

-- opened over what is accepted a chunk is open, and over all else closed and without a record
abbrev pub opening : Context → Phase
opening x = cond (accepted x) Open Refused

-- the ledger of a chunk that was just opened
abbrev pub opened : Context → Ledger
opened x = fresh (opening x)

-- what a call took: what a batch takes, if it was not refused
abbrev pub took : Layout → Call → Answer → Page
took f (batch b) (batched (Ok a)) = Rattle.ledger.specs.Batches.taken f b
took f (batch b) (batched (Err e)) = blank
took f (batch b) (ended r) = blank
took f cut r = blank
took f close r = blank

-- what calls and their answers took, as one page
abbrev pub took_all : Layout → List Call → List Answer → Page
took_all f [] rs = blank
took_all f (c ∷ cs) [] = blank
took_all f (c ∷ cs) (r ∷ rs) = join (took f c r) (took_all f cs rs)

-- Two runs of one column: where both took the same, their records have the same figures.
use Rattle.kinds.specs.declared.kind.Kind as kinds
use Rattle.level_coder.specs.declared.coder.LevelCoder as level_coders
use Rattle.body_coder.specs.declared.coder.BodyCoder as body_coders
use Rattle.sinks.specs.declared.sink.PageSink as sinks
use Rattle.sinks.specs.declared.store.PageStore as stores
use Rattle.std.specs.Prelude.{◌≡◌, ℕ, Bool, true, false, ◌&&◌, List, Ok, Err, IfOk, Result}
use Rattle.refusals.specs.declared.fault.ChunkFault.{ChunkFault}
use Rattle.refusals.specs.declared.fault.ChunkFault.TheVariants.{NoRecord}
use Rattle.ledger.specs.Laws.{Exactly}
use Rattle.ledger.specs.Context.{Context, layout}
use Rattle.ledger.specs.Figures.{figures}
use Rattle.ledger.specs.Ledger.{Call, Answer, has_record, input}
use Rattle.ledger.specs.Records.{Record}
use Rattle.ledger.specs.Runs.{took_all}
use Rattle.page_log.specs.Records.{said_record}
use Rattle.chunk.specs.Histories.{History}
use Rattle.chunk.specs.Reads.{answered}
use Rattle.runs.specs.Runs.{Ran}
use Rattle.runs.specs.declared.replaying.Run.{Run}

-- two records have the same rows, levels, nulls, NaN, level counts, smallest and largest, byte for byte
abbrev pub SameFigures : Record → Record → Type 0
SameFigures p q = p.figures ≡ q.figures

module _ {K L B S M C T : Type 0} {gk : kinds.Ghosts K} {gl : level_coders.Ghosts L} {gb : body_coders.Ghosts B} {gs : sinks.Ghosts S} {gt : stores.Ghosts S}
    {gm : level_coders.Ghosts M} {gc : body_coders.Ghosts C} {hs : sinks.Ghosts T} {ht : stores.Ghosts T} where
  -- two runs, one after the other with one scratch: each says what a run says, and the law of both
  pub record RanBoth (x : Context) (k : S) (cs : List Call) (rs : List Answer) (y : Context) (j : T) (ds : List Call) (qs : List Answer)
      (s : List ℕ) (r : Run K L B S gk gl gb gs gt) (q : Run K M C T gk gm gc hs ht) (s' : List ℕ) : Type 0 where
    pub between : List ℕ
    pub one : Ran x k cs s rs r between
    pub other : Ran y j ds between qs q s'
    pub agree : took_all (layout x) cs rs ≡ took_all (layout y) ds qs
        → IfOk (answered said_record r.record) (λ a. IfOk (answered said_record q.record) (SameFigures a))

-- what the answer to a comparison of two chunks that have records says: whether the figures of all that each took are the
-- same, which they are where both took the same, however it was cut into pages
pub record Compared (h k : History) (b : Bool) : Type 0 where
  pub records : (has_record h.ledger.phase && has_record k.ledger.phase) ≡ true
  pub exactly : Exactly (b ≡ true) (figures h.context.kind (layout h.context) (input h.ledger) ≡ figures k.context.kind (layout k.context) (input k.ledger))
  pub same_input : h.context.kind ≡ k.context.kind → h.context.column ≡ k.context.column → input h.ledger ≡ input k.ledger → b ≡ true

-- what comparing two chunks answers: refused exactly if one has no record
abbrev pub Agreed : History → History → Result Bool ChunkFault → Type 0
Agreed h k (Err e) = (e ≡ NoRecord) × ((has_record h.ledger.phase && has_record k.ledger.phase) ≡ false)
Agreed h k (Ok b) = Compared h k b

-- Runs of calls on a chunk, and what holds of a chunk after any of them.
use Rattle.kinds.specs.declared.kind.Kind as kinds
use Rattle.level_coder.specs.declared.coder.LevelCoder as level_coders
use Rattle.body_coder.specs.declared.coder.BodyCoder as body_coders
use Rattle.sinks.specs.declared.sink.PageSink as sinks
use Rattle.sinks.specs.declared.store.PageStore as stores
use Rattle.std.specs.Prelude.{◌≡◌, ℕ, ◌<◌, true, List, [], ◌∷◌, ◌++◌, map, length, IfOk, Some, None, ◌+◌, Option, sum_by}
use Rattle.std.specs.List.{flat_map, slice_get}
use Rattle.sinks.specs.Stores.{StoreMeaning}
use Rattle.sinks.specs.Sinks.{SinkMeaning}
use Rattle.columns.specs.declared.settings.Mode.TheVariants.{Page as PageMode}
use Rattle.pages.specs.Reading.{PageHolds}
use Rattle.ledger.specs.Pages.{Page, joined, levels}
use Rattle.ledger.specs.Context.{Context, layout, bytes, plain_bytes}
use Rattle.ledger.specs.Figures.{figures}
use Rattle.ledger.specs.Ledger.{Call, Answer, batch, cut, close, batched, ended, has_record, input}
use Rattle.ledger.specs.Answers.{levels_read}
use Rattle.ledger.specs.ChunkLaws.{ChunkLaws, marked_nulls}
use Rattle.ledger.specs.Runs.{took_all}
use Rattle.intake.specs.Admitting.{batch_of}
use Rattle.entries.specs.Entries.{said_entry}
use Rattle.page_log.specs.Records.{said_record}
use Rattle.chunk.specs.Histories.{History, Before, held, begun, and_call, and_calls}
use Rattle.chunk.specs.Stands.{Stands}
use Rattle.chunk.specs.Calls.{Step, Kept}
use Rattle.chunk.specs.Reads.{answered, page_of, IndexedBy, RecordedBy}
use Rattle.chunk.specs.declared.state.State.{State}
use Rattle.runs.specs.declared.call.Call.{Call as Lent}
use Rattle.runs.specs.declared.call.Call.TheVariants.{Batch as LentBatch, Cut as LentCut, Close as LentClose}
use Rattle.runs.specs.declared.call.Answer.{Answer as Given}
use Rattle.runs.specs.declared.call.Answer.TheVariants.{Batched, Ended}
use Rattle.runs.specs.declared.call.Played.{Played}
use Rattle.runs.specs.declared.replaying.Run.{Run}

-- ---- calls and answers

-- a call as the ledger has it, its values by their bytes
abbrev pub call_of : {V : Type 0} → (V → List ℕ) → Lent V → Call
call_of bytes (LentBatch b) = batch (batch_of bytes b)
call_of bytes LentCut = cut
call_of bytes LentClose = close

-- an answer as the ledger has it
abbrev pub answer_of : Given → Answer
answer_of (Batched r) = batched r
answer_of (Ended r) = ended r

-- the calls of a list, as they are given and as the ledger has them
abbrev pub lent_calls : {V : Type 0} → List (Played V) → List (Lent V)
lent_calls ps = map (λ p. p.call) ps

abbrev pub calls_in : {V : Type 0} → (V → List ℕ) → List (Played V) → List Call
calls_in bytes ps = map (λ p. call_of bytes p.call) ps

-- the answers that stand beside the calls of a list
abbrev pub answer_in : Option Given → List Answer
answer_in None = []
answer_in (Some a) = answer_of a ∷ []

abbrev pub answers_in : {V : Type 0} → List (Played V) → List Answer
answers_in ps = flat_map (λ p. answer_in p.answer) ps

-- a call that is refused changes neither the chunk nor the scratch
abbrev pub KeptAs : {A : Type 0} → A → List ℕ → Given → A → List ℕ → Type 0
KeptAs c s (Batched r) c' s' = Kept c s r c' s'
KeptAs c s (Ended r) c' s' = Kept c s r c' s'

-- ---- calls in a row

-- each call is made to the sink and with the scratch that the one before it left, and that sink has the pages of the ledger then: it is
-- answered by that sink, which is then as it was or what the write leaves of it; each call has an answer
abbrev pub Threaded : {S : Type 0} → StoreMeaning S → SinkMeaning S → History → List Call → S → List ℕ → List Answer → S → List ℕ → Type 0
Threaded m w h [] k s [] k' s' = (k' ≡ k) × (s' ≡ s)
Threaded m w h [] k s (r ∷ rs) k' s' = ⊥
Threaded m w h (c ∷ cs) k s [] k' s' = ⊥
Threaded {S} m w h (c ∷ cs) k s (r ∷ rs) k' s' =
    (m.pages k ≡ h.before.pages ++ map (bytes h.context) h.ledger.pages)
    × ((k1 : S) × (s1 : List ℕ) × Step h.context w h.ledger c k s r k1 s1 × Threaded m w (and_call h c r) cs k1 s1 rs k' s')

module _ {K L B S : Type 0} {gk : kinds.Ghosts K} {gl : level_coders.Ghosts L} {gb : body_coders.Ghosts B} {gs : sinks.Ghosts S} {gt : stores.Ghosts S} where
  -- what calls that were played one after the other answered and left
  pub record PlayedAll (h : History) (cs : List Call) (c : State K L B S gk gl gb gs gt) (s : List ℕ) (rs : List Answer) (c' : State K L B S gk gl gb gs gt) (s' : List ℕ) : Type 0 where
    pub threaded : Threaded gt.meaning gs.meaning h cs c.sink s rs c'.sink s'
    pub stands : Stands (and_calls h cs rs) c'

-- ---- a run

-- the history of a chunk that was opened and on which calls were played, with these answers
abbrev pub run_of : Context → Before → List Call → List Answer → History
run_of x o cs rs = and_calls (begun x o) cs rs

-- the levels that are read of a page, each list where the maximum is above 0
abbrev pub reps_read : Context → Page → List ℕ
reps_read x p = levels_read (layout x).max_rep_level p.reps

abbrev pub defs_read : Context → Page → List ℕ
defs_read x p = levels_read (layout x).max_def_level p.defs

-- a sink's page that reads back as a page of the ledger: its bytes hold these levels and plain bytes, and no others
pub record ReadsAs (x : Context) (page : Option (List ℕ)) (p : Page) : Type 0 where
  pub there : page ≡ Some (bytes x p)
  pub holds : PageHolds x.levels x.body (layout x) (levels p) (bytes x p) (reps_read x p) (defs_read x p) (plain_bytes x p)
  pub alone : (reps defs plain : List ℕ) → PageHolds x.levels x.body (layout x) (levels p) (bytes x p) reps defs plain
      → (reps ≡ reps_read x p) × (defs ≡ defs_read x p) × (plain ≡ plain_bytes x p)

module _ {K L B S : Type 0} {gk : kinds.Ghosts K} {gl : level_coders.Ghosts L} {gb : body_coders.Ghosts B} {gs : sinks.Ghosts S} {gt : stores.Ghosts S} where
  -- what holds of a chunk after any run of calls, the refused ones too, by its history
  pub record RunSays (h : History) (cs : List Call) (rs : List Answer) (r : Run K L B S gk gl gb gs gt) : Type 0 where
    pub stands : Stands h r.chunk.state
    -- all that is on the pages and the open page is what the batches took that were not refused, in order
    pub taken : input h.ledger ≡ took_all (layout h.context) cs rs
    -- behind the pages that the sink had before, it has the run's pages, in number and bytes
    pub pages : gt.meaning.pages r.chunk.state.sink ≡ h.before.pages ++ map (bytes h.context) h.ledger.pages
    -- and each of them reads back as the ledger's page of its number
    pub reads : (k : ℕ) → k < length h.ledger.pages
        → ReadsAs h.context (slice_get (gt.meaning.pages r.chunk.state.sink) (length h.before.pages + k)) (page_of h.ledger k)
    -- once the chunk is closed, the pages join to what was taken
    pub joins : has_record h.ledger.phase ≡ true → joined h.ledger.pages ≡ took_all (layout h.context) cs rs
    -- the record that was answered, and its figures, which are those of what was taken
    pub record_says : RecordedBy h (answered said_record r.record)
    pub figures : IfOk (answered said_record r.record)
        (λ q. q.figures ≡ Rattle.ledger.specs.Figures.figures h.context.kind (layout h.context) (took_all (layout h.context) cs rs))
    -- the entries that were answered, whose null counts add up to the record's
    pub entries : IndexedBy h (gt.meaning.offsets r.chunk.state.sink) (map said_entry r.entries)
    pub null_counts : h.context.settings.mode ≡ PageMode
        → IfOk (answered said_record r.record) (λ q. sum_by (λ e. marked_nulls e.marks) (map said_entry r.entries) ≡ q.figures.nulls)
    -- whatever else the record and the entries say of the pages
    pub laws : ChunkLaws h.context h.ledger.pages

  -- what playing calls on a chunk that was opened over a sink answered and left
  pub record Ran (x : Context) (k : S) (cs : List Call) (s : List ℕ) (rs : List Answer) (r : Run K L B S gk gl gb gs gt) (s' : List ℕ) : Type 0 where
    pub threaded : Threaded gt.meaning gs.meaning (begun x (held gt.meaning k)) cs k s rs r.chunk.state.sink s'
    pub says : RunSays (run_of x (held gt.meaning k) cs rs) cs rs r

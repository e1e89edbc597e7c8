-- What a call that can change a chunk answers and leaves, from docs/RULES.md.
use Rattle.kinds.specs.declared.kind.Kind as kinds
use Rattle.level_coder.specs.declared.coder.LevelCoder as level_coders
use Rattle.body_coder.specs.declared.coder.BodyCoder as body_coders
use Rattle.sinks.specs.declared.sink.PageSink as sinks
use Rattle.sinks.specs.declared.store.PageStore as stores
use Rattle.std.specs.Prelude.{◌≡◌, ℕ, zero, suc, ◌<◌, Bool, true, false, cond, List, ◌++◌, ◌⊎◌, length, drop, Ok, Err, Result}
use Rattle.sinks.specs.Sinks.{SinkMeaning}
use Rattle.pages.specs.declared.layout.Layout.{Layout}
use Rattle.pages.specs.declared.fault.PageFault.TheVariants.{Scratch}
use Rattle.refusals.specs.declared.done.BatchDone.{BatchDone}
use Rattle.refusals.specs.declared.fault.ChunkFault.{ChunkFault}
use Rattle.refusals.specs.declared.fault.ChunkFault.TheVariants.{Closed, PageWaits, Page as OfPage}
use Rattle.ledger.specs.Pages.{Page, join}
use Rattle.ledger.specs.Batches.{taken}
use Rattle.ledger.specs.Context.{Context, layout, bytes, due}
use Rattle.ledger.specs.Ledger.{Ledger, Call, Answer, batch, cut, close, batched, ended, is_open, turned}
use Rattle.ledger.specs.Answers.{written, done, end_answer, batch_answer}
use Rattle.ledger.specs.declared.phase.Phase.{Phase}
use Rattle.chunk.specs.Histories.{History, with_ledger, and_call}
use Rattle.chunk.specs.Stands.{Stands}
use Rattle.chunk.specs.declared.state.State.{State}

-- ---- the answer

-- the answer fixed for a call, by the ledger before it, the lengths that the sink takes and the length of the scratch
abbrev pub answer_to : Context → (ℕ → Bool) → ℕ → Ledger → Call → Answer
answer_to x takes room l (batch b) = batched (batch_answer x takes room l b)
answer_to x takes room l cut = ended (end_answer x takes room l)
answer_to x takes room l close = ended (end_answer x takes room l)

-- how many pages a call wrote, by its answer
abbrev pub pages_of : Result ℕ ChunkFault → ℕ
pages_of (Ok n) = n
pages_of (Err e) = 0

abbrev pub cut_by : Answer → ℕ
cut_by (batched (Ok a)) = a.pages_cut
cut_by (batched (Err e)) = 0
cut_by (ended r) = pages_of r

-- ---- sink and scratch

-- the page that a call would write: the open one, and behind it what a batch takes
abbrev pub page_at : Layout → Ledger → Call → Page
page_at f l (batch b) = join l.page (taken f b)
page_at f l cut = l.page
page_at f l close = l.page

-- a scratch with a page's bytes at its front, where one was written, and the rest as it was
abbrev pub scratched : List ℕ → ℕ → List ℕ → List ℕ
scratched bs zero s = s
scratched bs (suc n) s = bs ++ drop (length bs) s

-- a sink that was written to is what it says of that, and any other is as it was
abbrev pub SinkLeft : {S : Type 0} → SinkMeaning S → List ℕ → ℕ → S → S → Type 0
SinkLeft w bs zero k k' = k' ≡ k
SinkLeft w bs (suc n) k k' = w.leaves k bs k'

-- sink and scratch after a page was written, or none
pub record Left {S : Type 0} (w : SinkMeaning S) (bs : List ℕ) (n : ℕ) (k : S) (s : List ℕ) (k' : S) (s' : List ℕ) : Type 0 where
  pub sink : SinkLeft w bs n k k'
  pub scratch : s' ≡ scratched bs n s

-- what a call answers, and what it does to sink and scratch
pub record Step {S : Type 0} (x : Context) (w : SinkMeaning S) (l : Ledger) (call : Call) (k : S) (s : List ℕ) (r : Answer) (k' : S) (s' : List ℕ) : Type 0 where
  pub answer : r ≡ answer_to x (w.takes k) (length s) l call
  pub left : Left w (bytes x (page_at (layout x) l call)) (cut_by r) k s k' s'

-- ---- refusals

-- a refusal changes neither the chunk nor the scratch
abbrev pub Kept : {A X : Type 0} → A → List ℕ → Result X ChunkFault → A → List ℕ → Type 0
Kept c s (Ok r) c' s' = Unit {0}
Kept c s (Err e) c' s' = (c' ≡ c) × (s' ≡ s)

-- what a cut or a close of any chunk is refused for before its page is looked at
pub record EndRefused {A : Type 0} (f : Phase) (room : ℕ) (r : Result A ChunkFault) : Type 0 where
  pub closed : is_open f ≡ false → r ≡ Err Closed
  pub short : is_open f ≡ true → room < 9227 → r ≡ Err (OfPage Scratch)

-- and a batch: behind the one refusal comes a page that waits
pub record BatchRefused {A : Type 0} (f : Phase) (room : ℕ) (r : Result A ChunkFault) : Type 0 where
  pub closed : is_open f ≡ false → r ≡ Err Closed
  pub short : is_open f ≡ true → room < 9227 → (r ≡ Err PageWaits) ⊎ (r ≡ Err (OfPage Scratch))

-- ---- calls

module _ {K L B S : Type 0} {gk : kinds.Ghosts K} {gl : level_coders.Ghosts L} {gb : body_coders.Ghosts B} {gs : sinks.Ghosts S} {gt : stores.Ghosts S} where
  -- what a call to a chunk of this history answers and leaves
  pub record Called (h : History) (call : Call) (c : State K L B S gk gl gb gs gt) (s : List ℕ) (r : Answer) (c' : State K L B S gk gl gb gs gt) (s' : List ℕ) : Type 0 where
    pub step : Step h.context gs.meaning h.ledger call c.sink s r c'.sink s'
    pub stands : Stands (and_call h call r) c'

  -- what writing its open page answers and leaves
  pub record Wrote (h : History) (c : State K L B S gk gl gb gs gt) (s : List ℕ) (r : Result ℕ ChunkFault) (c' : State K L B S gk gl gb gs gt) (s' : List ℕ) : Type 0 where
    pub answer : r ≡ written h.context (gs.meaning.takes c.sink) h.ledger
    pub left : Left gs.meaning (bytes h.context h.ledger.page) (pages_of r) c.sink s c'.sink s'
    pub stands : Stands (with_ledger h (turned (pages_of r) h.ledger)) c'

  -- what settling a page that took so many values answers and leaves: it is written where it is due
  pub record Settled (h : History) (n : ℕ) (c : State K L B S gk gl gb gs gt) (s : List ℕ) (r : BatchDone) (c' : State K L B S gk gl gb gs gt) (s' : List ℕ) : Type 0 where
    pub answer : r ≡ cond (due h.context h.ledger.page) (done n (written h.context (gs.meaning.takes c.sink) h.ledger)) (done n (Ok 0))
    pub left : Left gs.meaning (bytes h.context h.ledger.page) r.pages_cut c.sink s c'.sink s'
    pub stands : Stands (with_ledger h (turned r.pages_cut h.ledger)) c'

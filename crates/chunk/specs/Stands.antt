-- How a chunk stands to its history, from docs/RULES.md.
use Rattle.kinds.specs.declared.kind.Kind as kinds
use Rattle.level_coder.specs.declared.coder.LevelCoder as level_coders
use Rattle.body_coder.specs.declared.coder.BodyCoder as body_coders
use Rattle.sinks.specs.declared.sink.PageSink as sinks
use Rattle.sinks.specs.declared.store.PageStore as stores
use Rattle.std.specs.Prelude.{◌≡◌, ℕ, ◌^◌, ◌<◌, Bool, true, false, List, ◌++◌, map, length}
use Rattle.sinks.specs.Stores.{StoreMeaning}
use Rattle.ledger.specs.Pages.{Page, blank}
use Rattle.ledger.specs.Context.{Context, layout, bytes, accepted}
use Rattle.ledger.specs.Ledger.{Ledger, has_record}
use Rattle.ledger.specs.declared.phase.Phase.{Phase}
use Rattle.ledger.specs.declared.phase.Phase.TheVariants.{Open, Closed, Refused}
use Rattle.open_page.specs.Opened.{Opened}
use Rattle.page_log.specs.Logs.{Logged, context}
use Rattle.chunk.specs.Histories.{Before, History}
use Rattle.chunk.specs.declared.state.State.{State}

-- a phase that only an accepted opening leads to
abbrev pub is_accepted : Phase → Bool
is_accepted Open = true
is_accepted Closed = true
is_accepted Refused = false

-- a sink has the pages that it had before, and behind them these, coded, at these offsets
pub record Stored {S : Type 0} (m : StoreMeaning S) (x : Context) (o : Before) (ps : List Page) (offsets : List ℕ) (k : S) : Type 0 where
  pub pages : m.pages k ≡ o.pages ++ map (bytes x) ps
  pub offsets_behind : m.offsets k ≡ o.offsets ++ offsets

-- the number of pages that the sink had before
pub record Based (o : Before) (base : ℕ) : Type 0 where
  pub paired : length o.offsets ≡ length o.pages
  pub same : base ≡ length o.pages
  pub few : base < 2 ^ 63

-- the ledger's phase: only what was accepted is ever open, or has pages, and what has a record has no page open
pub record Phased (x : Context) (l : Ledger) (f : Phase) : Type 0 where
  pub same : f ≡ l.phase
  pub allowed : is_accepted l.phase ≡ accepted x
  pub written : 0 < length l.pages → accepted x ≡ true
  pub ended : has_record l.phase ≡ true → l.page ≡ blank

module _ {K L B S : Type 0} {gk : kinds.Ghosts K} {gl : level_coders.Ghosts L} {gb : body_coders.Ghosts B} {gs : sinks.Ghosts S} {gt : stores.Ghosts S} where
  -- what a chunk was opened with
  abbrev pub context_in : State K L B S gk gl gb gs gt → Context
  context_in c = context gk.meaning gl.coding gb.body c.opening.column c.opening.settings

  -- a chunk holds what its history says: the pages in its sink, the open page, and what is counted of both
  pub record Stands (h : History) (c : State K L B S gk gl gb gs gt) : Type 0 where
    pub opened : context_in c ≡ h.context
    pub offsets : List ℕ
    pub sink : Stored gt.meaning h.context h.before h.ledger.pages offsets c.sink
    pub base : Based h.before c.base
    pub phase : Phased h.context h.ledger c.phase
    pub page : Opened h.context.kind (layout h.context) h.ledger.page c.page
    pub log : Logged h.context offsets h.ledger.pages c.log

  -- a history to which it stands
  abbrev pub Stood : State K L B S gk gl gb gs gt → Type 0
  Stood c = (h : History) × Stands h c

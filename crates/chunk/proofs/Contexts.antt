-- What is shown of a chunk by its own context holds of each history to which it stands.
use Rattle.kinds.specs.declared.kind.Kind as kinds
use Rattle.level_coder.specs.declared.coder.LevelCoder as level_coders
use Rattle.body_coder.specs.declared.coder.BodyCoder as body_coders
use Rattle.sinks.specs.declared.sink.PageSink as sinks
use Rattle.sinks.specs.declared.store.PageStore as stores
use Rattle.std.proofs.Common.{sym, subst}
use Rattle.ledger.specs.Context.{Context}
use Rattle.ledger.specs.Ledger.{Ledger}
use Rattle.chunk.specs.Histories.{Before, History}
use Rattle.chunk.specs.Stands.{Stands, context_in}
use Rattle.chunk.specs.declared.state.State.{State}

-- a history by its parts
abbrev pub history : Context → Before → Ledger → History
history x o l = record { context = x; before = o; ledger = l }

pub by_own : {K L B S : Type 0} {gk : kinds.Ghosts K} {gl : level_coders.Ghosts L} {gb : body_coders.Ghosts B} {gs : sinks.Ghosts S} {gt : stores.Ghosts S} (c : State K L B S gk gl gb gs gt) (P : History → Type 0)
    → ((o : Before) (l : Ledger) → Stands (history (context_in c) o l) c → P (history (context_in c) o l)) → (h : History) → Stands h c → P h
by_own c P f h s =
    subst (λ x. P (history x h.before h.ledger)) s.opened (f h.before h.ledger (subst (λ x. Stands (history x h.before h.ledger) c) (sym s.opened) s))

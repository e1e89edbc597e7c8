-- What holds of a chunk that was opened and on which calls were played.
use Rattle.kinds.specs.declared.kind.Kind as kinds
use Rattle.level_coder.specs.declared.coder.LevelCoder as level_coders
use Rattle.body_coder.specs.declared.coder.BodyCoder as body_coders
use Rattle.sinks.specs.declared.sink.PageSink as sinks
use Rattle.sinks.specs.declared.store.PageStore as stores
use Rattle.std.proofs.Common.{◌≡◌, ℕ, ◌+◌, ◌<◌, List, map, length, IfOk, Ok, Err, Result, sym, refl, ap, ◌∙◌, subst, arith}
use Rattle.refusals.specs.declared.fault.ChunkFault.{ChunkFault}
use Rattle.ledger.specs.Pages.{Page, blank, join, levels}
use Rattle.ledger.specs.Context.{Context, layout, bytes, plain_bytes}
use Rattle.ledger.specs.Ledger.{Call, Answer, input}
use Rattle.ledger.specs.Runs.{opened, took_all}
use Rattle.ledger.proofs.Runs.{input_written, input_fed_all}
use Rattle.ledger.proofs.ChunkLaws.{chunk_laws}
use Rattle.entries.specs.Entries.{said_entry}
use Rattle.page_log.specs.Records.{said_record}
use Rattle.open_page.specs.Pages.{WellFormed}
use Rattle.chunk.specs.Histories.{History, held, begun}
use Rattle.chunk.specs.Stands.{Stands}
use Rattle.chunk.specs.Reads.{answered, page_of, RecordedBy, IndexedBy}
use Rattle.chunk.proofs.Places.{all_at, bytes_here}
use Rattle.pages.proofs.Unique.{same_parts}
use Rattle.std.specs.List.{slice_get}
use Rattle.chunk.proofs.Lists.{holds}
use Rattle.chunk.specs.declared.state.State.{State}
use Rattle.runs.specs.Runs.{Threaded, PlayedAll, run_of, reps_read, defs_read, ReadsAs, Ran}
use Rattle.runs.specs.declared.replaying.Run.{Run}

-- behind an empty page there is what there is
blank_join : (p : Page) → join blank p ≡ p
blank_join p = refl

-- what holds of an answer, and what follows from it
if_ok_then : {A : Type 0} (P Q : A → Type 0) (r : Result A ChunkFault) → ((a : A) → P a → Q a) → IfOk r P → IfOk r Q
if_ok_then P Q (Ok a) f p = f a p
if_ok_then P Q (Err e) f p = tt

module _ {K L B S : Type 0} {gk : kinds.Ghosts K} {gl : level_coders.Ghosts L} {gb : body_coders.Ghosts B} {gs : sinks.Ghosts S} {gt : stores.Ghosts S} where
  -- the pages of a chunk that stands read back
  pub reads : (h : History) (c : State K L B S gk gl gb gs gt) → Stands h c → (k : ℕ) → k < length h.ledger.pages
      → ReadsAs h.context (slice_get (gt.meaning.pages c.sink) (length h.before.pages + k)) (page_of h.ledger k)
  reads h c s k few =
      let x = h.context in
      let p = page_of h.ledger k in
      let here = holds x p (s.phase.written (omega (arith, few))) s.page.allowed (all_at (WellFormed (layout x)) h.ledger.pages k blank s.log.well few) in
      record {
        there = ap (λ n. slice_get (gt.meaning.pages c.sink) (n + k)) (sym s.base.same) ∙ bytes_here h c s k few;
        holds = here;
        alone = λ rs ds ps q. same_parts x.levels x.body (layout x) (levels p) (bytes x p) rs ds ps (reps_read x p) (defs_read x p) (plain_bytes x p) q here;
      }

  pub ran : (x : Context) (k : S) (cs : List Call) (s : List ℕ) (rs : List Answer) (c0 : State K L B S gk gl gb gs gt) (r : Run K L B S gk gl gb gs gt) (s' : List ℕ)
      → Stands (begun x (held gt.meaning k)) c0 → c0.sink ≡ k → ((h : History) → Stands h c0 → PlayedAll h cs c0 s rs r.chunk.state s')
      → ((h : History) → Stands h r.chunk.state → RecordedBy h (answered said_record r.record))
      → ((h : History) → Stands h r.chunk.state → IndexedBy h (gt.meaning.offsets r.chunk.state.sink) (map said_entry r.entries))
      → Ran x k cs s rs r s'
  ran x k cs s rs c0 r s' begins e played recorded indexed =
      let a = played (begun x (held gt.meaning k)) begins in
      let h = run_of x (held gt.meaning k) cs rs in
      let took : input h.ledger ≡ took_all (layout x) cs rs = input_fed_all (layout x) (opened x) cs rs ∙ blank_join (took_all (layout x) cs rs) in
      let q = recorded h a.stands in
      let i = indexed h a.stands in
      record {
        threaded = subst (λ y. Threaded gt.meaning gs.meaning (begun x (held gt.meaning k)) cs y s rs r.chunk.state.sink s') e a.threaded;
        says = record {
          stands = a.stands;
          taken = took;
          pages = a.stands.sink.pages;
          reads = reads h r.chunk.state a.stands;
          joins = λ y. sym (input_written h.ledger (a.stands.phase.ended y)) ∙ took;
          record_says = q;
          figures = if_ok_then _ _ (answered said_record r.record) (λ p f. f ∙ ap (Rattle.ledger.specs.Figures.figures x.kind (layout x)) took) q.figures;
          entries = i;
          null_counts = λ mode. if_ok_then _ _ (answered said_record r.record) (λ p f. i.null_counts mode ∙ sym f) q.nulls;
          laws = chunk_laws x h.ledger.pages;
        };
      }

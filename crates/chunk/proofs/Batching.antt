-- What a batch leaves, from what writing it into the open page and settling the page leave.
use Rattle.kinds.specs.declared.kind.Kind as kinds
use Rattle.level_coder.specs.declared.coder.LevelCoder as level_coders
use Rattle.body_coder.specs.declared.coder.BodyCoder as body_coders
use Rattle.sinks.specs.declared.sink.PageSink as sinks
use Rattle.sinks.specs.declared.store.PageStore as stores
use Rattle.std.proofs.Common.{◌≡◌, ℕ, ◌+◌, ◌≤◌, true, false, cond, List, length, Ok, Err, Result, sym, refl, ap, ◌∙◌, subst}
use Rattle.std.proofs.lemmas.Bool.{ltb-false, not-false}
use Rattle.refusals.specs.Refusals.{tested}
use Rattle.refusals.specs.declared.fault.ChunkFault.{ChunkFault}
use Rattle.refusals.specs.declared.done.BatchDone.{BatchDone}
use Rattle.ledger.specs.Pages.{Page, join, levels}
use Rattle.ledger.specs.Batches.{Batch, needed, taken, intake_tests, Admitted}
use Rattle.ledger.specs.Context.{Context, layout, due}
use Rattle.ledger.specs.Ledger.{Ledger, batch, batched, is_open, adds}
use Rattle.ledger.specs.Answers.{written, done, batch_tests, settled}
use Rattle.intake.specs.Admitting.{intake_of}
use Rattle.intake.specs.declared.intake.Intake.{Intake}
use Rattle.intake.proofs.Tested.{tested_err, tested_ok, passed_from_ok, ok_from_ok, passed_left, passed_right}
use Rattle.intake.proofs.Admits.{admitted}
use Rattle.open_page.specs.Opened.{Opened}
use Rattle.open_page.specs.declared.page.OpenPage.{OpenPage}
use Rattle.chunk.specs.Histories.{History, with_ledger}
use Rattle.chunk.specs.Stands.{Stands}
use Rattle.chunk.specs.Calls.{Settled, Called}
use Rattle.chunk.specs.declared.state.State.{State}
use Rattle.chunk.proofs.Ending.{not_both}
use Rattle.chunk.proofs.Tests.{levels_test}

-- what is known of a batch that is not refused
pub record Passes (x : Context) (l : Ledger) (b : Batch) (i : Intake) : Type 0 where
  pub begun : is_open l.phase ≡ true
  pub waits : due x l.page ≡ false
  pub fits : Admitted (layout x) b
  pub room : levels l.page + b.count ≤ 1024
  pub values : i.values ≡ needed (layout x) b

pub passes : (x : Context) (room : ℕ) (l : Ledger) (b : Batch) (i : Intake) → tested (batch_tests x room l b) (Ok (intake_of (layout x) b)) ≡ Ok i → Passes x l b i
passes x room l b i h =
    let p = passed_from_ok (batch_tests x room l b) (Ok (intake_of (layout x) b)) i h in
    let e : ◌≡◌ {A = Result Intake ChunkFault} (Ok (intake_of (layout x) b)) (Ok i) = ok_from_ok (batch_tests x room l b) (Ok (intake_of (layout x) b)) i h in
    let z : intake_of (layout x) b ≡ i = cc in
    record {
      begun = not-false (is_open l.phase) p.0;
      waits = p.1.0;
      fits = admitted (layout x) b (passed_left (intake_tests (layout x) b) (levels_test l b) p.1.1.1);
      room = ltb-false 1024 (levels l.page + b.count) (passed_right (intake_tests (layout x) b) (levels_test l b) p.1.1.1).0;
      values = ap (λ k. k.values) (sym z);
    }

module _ {K L B S : Type 0} {gk : kinds.Ghosts K} {gl : level_coders.Ghosts L} {gb : body_coders.Ghosts B} {gs : sinks.Ghosts S} {gt : stores.Ghosts S} (h : History) (b : Batch) (c : State K L B S gk gl gb gs gt) (st : Stands h c) where
  pub batch_refused : (s : List ℕ) (r : Result BatchDone ChunkFault) (e : ChunkFault) → r ≡ Err e
      → tested (batch_tests h.context (length s) h.ledger b) (Ok (intake_of (layout h.context) b)) ≡ Err e → Called h (batch b) c s (batched r) c s
  batch_refused s r e k t = subst (λ q. Called h (batch b) c s (batched q) c s) (sym k) (record {
    step = record {
      answer = ap batched (sym (tested_err (batch_tests h.context (length s) h.ledger b) (intake_of (layout h.context) b) e (Ok (settled h.context (gs.meaning.takes c.sink) h.ledger b)) t));
      left = record { sink = refl; scratch = refl };
    };
    stands = st;
  })

  -- with more on its open page the chunk stands to the ledger that has more there
  pub more_stands : (p : Page) (page : OpenPage) → is_open h.ledger.phase ≡ true → Opened h.context.kind (layout h.context) (join h.ledger.page p) page
      → Stands (with_ledger h (adds h.ledger p)) (record c { page = page })
  more_stands p page begun o = record {
    opened = st.opened;
    offsets = st.offsets;
    sink = st.sink;
    base = st.base;
    phase = record { same = st.phase.same; allowed = st.phase.allowed; written = st.phase.written; ended = λ e. absurd (not_both h.ledger.phase begun e) };
    page = o;
    log = st.log;
  }

  pub batch_stood : (s : List ℕ) (i : Intake) (page : OpenPage) (r : BatchDone) (c' : State K L B S gk gl gb gs gt) (s' : List ℕ)
      → tested (batch_tests h.context (length s) h.ledger b) (Ok (intake_of (layout h.context) b)) ≡ Ok i
      → Settled (with_ledger h (adds h.ledger (taken (layout h.context) b))) i.values (record c { page = page }) s r c' s' → Called h (batch b) c s (batched (Ok r)) c' s'
  batch_stood s i page r c' s' t f =
      let x = h.context in
      let l = h.ledger in
      record {
        step = record {
          answer =
              ap (λ q. batched (Ok q))
              (f.answer
              ∙ ap (λ n. cond (due x (join l.page (taken (layout x) b))) (done n (written x (gs.meaning.takes c.sink) (adds l (taken (layout x) b)))) (done n (Ok 0))) (passes x (length s) l b i t).values)
              ∙ ap batched (sym (tested_ok (batch_tests x (length s) l b) (intake_of (layout x) b) i (Ok (settled x (gs.meaning.takes c.sink) l b)) t));
          left = record { sink = f.left.sink; scratch = f.left.scratch };
        };
        stands = f.stands;
      }

-- What cut, close and settling leave, from what writing the open page leaves.
use Rattle.kinds.specs.declared.kind.Kind as kinds
use Rattle.level_coder.specs.declared.coder.LevelCoder as level_coders
use Rattle.body_coder.specs.declared.coder.BodyCoder as body_coders
use Rattle.sinks.specs.declared.sink.PageSink as sinks
use Rattle.sinks.specs.declared.store.PageStore as stores
use Rattle.std.proofs.Common.{◌≡◌, ℕ, zero, suc, Bool, true, false, List, length, Ok, Err, Result, sym, refl, ap, ◌∙◌, subst}
use Rattle.std.proofs.lemmas.Bool.{cond-true, cond-false, not-false, true≢false}
use Rattle.refusals.specs.Refusals.{tested}
use Rattle.refusals.specs.declared.fault.ChunkFault.{ChunkFault}
use Rattle.ledger.specs.Pages.{blank}
use Rattle.ledger.specs.Context.{layout, due, accepted}
use Rattle.ledger.specs.Ledger.{Ledger, cut, close, ended, is_open, has_record, turned, shut}
use Rattle.ledger.specs.Answers.{end_tests, written, done, end_answer}
use Rattle.ledger.specs.declared.phase.Phase.{Phase}
use Rattle.ledger.specs.declared.phase.Phase.TheVariants.{Open, Closed, Refused}
use Rattle.ledger.proofs.Runs.{ended_blank}
use Rattle.intake.proofs.Tested.{tested_err, tested_ok, passed_from_ok}
use Rattle.chunk.specs.Histories.{History, with_ledger}
use Rattle.chunk.specs.Stands.{Stands, is_accepted}
use Rattle.chunk.specs.Calls.{Wrote, Settled, Called}
use Rattle.chunk.specs.declared.state.State.{State}

-- an open chunk's opening was accepted
pub open_accepted : (f : Phase) (b : Bool) → is_open f ≡ true → is_accepted f ≡ b → b ≡ true
open_accepted Open b h e = sym e
open_accepted Closed b h e = absurd (true≢false (sym h))
open_accepted Refused b h e = absurd (true≢false (sym h))

turned_phase : (n : ℕ) (l : Ledger) → (turned n l).phase ≡ l.phase
turned_phase zero l = refl
turned_phase (suc n) l = refl

-- an open chunk has no record
pub not_both : (f : Phase) → is_open f ≡ true → has_record f ≡ true → ⊥
not_both Open h e = absurd (true≢false (sym e))
not_both Closed h e = absurd (true≢false (sym h))
not_both Refused h e = absurd (true≢false (sym h))

-- ---- cut and close

module _ {K L B S : Type 0} {gk : kinds.Ghosts K} {gl : level_coders.Ghosts L} {gb : body_coders.Ghosts B} {gs : sinks.Ghosts S} {gt : stores.Ghosts S} (h : History) (c : State K L B S gk gl gb gs gt) where
  pub cut_refused : (s : List ℕ) (e : ChunkFault) → Stands h c → tested {A = Unit {0}} (end_tests h.ledger (length s)) (Ok tt) ≡ Err e → Called h cut c s (ended (Err e)) c s
  cut_refused s e st t = record {
    step = record {
      answer = ap ended (sym (tested_err (end_tests h.ledger (length s)) tt e (written h.context (gs.meaning.takes c.sink) h.ledger) t));
      left = record { sink = refl; scratch = refl };
    };
    stands = st;
  }

  pub cut_wrote : (s : List ℕ) (r : Result ℕ ChunkFault) (c' : State K L B S gk gl gb gs gt) (s' : List ℕ) → tested {A = Unit {0}} (end_tests h.ledger (length s)) (Ok tt) ≡ Ok tt → Wrote h c s r c' s' → Called h cut c s (ended r) c' s'
  cut_wrote s (Ok n) c' s' t wr = record {
    step = record {
      answer = ap ended (wr.answer ∙ sym (tested_ok (end_tests h.ledger (length s)) tt tt (written h.context (gs.meaning.takes c.sink) h.ledger) t));
      left = wr.left;
    };
    stands = wr.stands;
  }
  cut_wrote s (Err e) c' s' t wr = record {
    step = record {
      answer = ap ended (wr.answer ∙ sym (tested_ok (end_tests h.ledger (length s)) tt tt (written h.context (gs.meaning.takes c.sink) h.ledger) t));
      left = wr.left;
    };
    stands = wr.stands;
  }

  pub close_refused : (s : List ℕ) (r : Result ℕ ChunkFault) (e : ChunkFault) (c' : State K L B S gk gl gb gs gt) (s' : List ℕ) → r ≡ Err e → Called h cut c s (ended (Err e)) c' s' → Called h close c s (ended r) c' s'
  close_refused s r e c' s' k by = subst (λ q. Called h close c s (ended q) c' s') (sym k) (record { step = record { answer = by.step.answer; left = by.step.left }; stands = by.stands })

  -- an answer shows that the chunk was open
  open_from : (s : List ℕ) (n : ℕ) → Ok n ≡ end_answer h.context (gs.meaning.takes c.sink) (length s) h.ledger → is_open h.ledger.phase ≡ true
  open_from s n e = not-false (is_open h.ledger.phase) (passed_from_ok (end_tests h.ledger (length s)) (written h.context (gs.meaning.takes c.sink) h.ledger) n (sym e)).0

  shut_stands : (n : ℕ) (c' : State K L B S gk gl gb gs gt) → is_open h.ledger.phase ≡ true → (turned n h.ledger).page ≡ blank
      → Stands (with_ledger h (turned n h.ledger)) c' → Stands (with_ledger h (shut (turned n h.ledger))) (record c' { phase = Closed })
  shut_stands n c' o none st = record {
    opened = st.opened;
    offsets = st.offsets;
    sink = st.sink;
    base = st.base;
    phase = record {
      same = refl;
      allowed = sym (open_accepted (turned n h.ledger).phase (accepted h.context) (ap is_open (turned_phase n h.ledger) ∙ o) st.phase.allowed);
      written = st.phase.written;
      ended = λ _. none;
    };
    page = st.page;
    log = st.log;
  }

  -- what an answer of both says
  answers : (s : List ℕ) (n : ℕ) → ended (Ok n) ≡ ended (end_answer h.context (gs.meaning.takes c.sink) (length s) h.ledger) → Ok n ≡ end_answer h.context (gs.meaning.takes c.sink) (length s) h.ledger
  answers s n e = cc

  pub closed_after : (s : List ℕ) (n : ℕ) (c' : State K L B S gk gl gb gs gt) (s' : List ℕ) → Stands h c → Called h cut c s (ended (Ok n)) c' s' → Called h close c s (ended (Ok n)) (record c' { phase = Closed }) s'
  closed_after s n c' s' st by =
      let a = answers s n by.step.answer in
      record {
        step = record { answer = by.step.answer; left = record { sink = by.step.left.sink; scratch = by.step.left.scratch } };
        stands = shut_stands n c' (open_from s n a)
            (ended_blank h.context (gs.meaning.takes c.sink) (length s) h.ledger (layout h.context).max_def_level n st.page.well.paired st.page.well.counted (sym a)) by.stands;
      }

  -- ---- a page that a batch leaves

  pub settled_not_due : (s : List ℕ) (n : ℕ) → Stands h c → due h.context h.ledger.page ≡ false → Settled h n c s (done n (Ok 0)) c s
  settled_not_due s n st d = record {
    answer = sym (cond-false (due h.context h.ledger.page) (done n (written h.context (gs.meaning.takes c.sink) h.ledger)) (done n (Ok 0)) d);
    left = record { sink = refl; scratch = refl };
    stands = st;
  }

  pub settled_wrote : (s : List ℕ) (n : ℕ) (r : Result ℕ ChunkFault) (c' : State K L B S gk gl gb gs gt) (s' : List ℕ) → due h.context h.ledger.page ≡ true → Wrote h c s r c' s' → Settled h n c s (done n r) c' s'
  settled_wrote s n (Ok k) c' s' d wr = record {
    answer = ap (done n) wr.answer ∙ sym (cond-true (due h.context h.ledger.page) (done n (written h.context (gs.meaning.takes c.sink) h.ledger)) (done n (Ok 0)) d);
    left = wr.left;
    stands = wr.stands;
  }
  settled_wrote s n (Err e) c' s' d wr = record {
    answer = ap (done n) wr.answer ∙ sym (cond-true (due h.context h.ledger.page) (done n (written h.context (gs.meaning.takes c.sink) h.ledger)) (done n (Ok 0)) d);
    left = wr.left;
    stands = wr.stands;
  }

-- Two runs of readings, none refused: each record has the figures of its readings, so that they agree where these are the same.
use Rattle.level_coder.specs.declared.coder.LevelCoder as level_coders
use Rattle.body_coder.specs.declared.coder.BodyCoder as body_coders
use Rattle.kinds.specs.declared.kind.Kind as kinds
use Rattle.sinks.specs.declared.sink.PageSink as sinks
use Rattle.sinks.specs.declared.store.PageStore as stores
use Rattle.std.proofs.Common.{◌≡◌, ℕ, ◌≤◌, map, length, Bool, true, List, Some, None, Ok, Err, IfOk, Option, Result, sym, refl, ap, ◌∙◌, subst}
use Rattle.std.specs.Option.{option_or}
use Rattle.std.specs.Result.{IsOkAnd}
use Rattle.floats.specs.declared.bits.Bits.{Bits}
use Rattle.refusals.specs.declared.fault.ChunkFault.{ChunkFault}
use Rattle.ledger.specs.Laws.{Exactly}
use Rattle.ledger.specs.Context.{Context, layout}
use Rattle.ledger.specs.Figures.{Figures, figures}
use Rattle.ledger.specs.Ledger.{Answer, has_record}
use Rattle.ledger.specs.Records.{Record as ARecord, chunk_record}
use Rattle.ledger.specs.Runs.{took_all}
use Rattle.page_log.specs.Records.{said_record}
use Rattle.page_log.specs.declared.record.Record.{Record}
use Rattle.chunk.specs.Histories.{History, held, begun}
use Rattle.chunk.specs.Reads.{answered, RecordedBy}
use Rattle.chunk.proofs.Recording.{there_record}
use Rattle.runs.specs.Runs.{call_of, lent_calls, calls_in, answers_in, Threaded, Ran, run_of}
use Rattle.runs.specs.Both.{RanBoth, SameFigures}
use Rattle.runs.specs.declared.call.Played.{Played}
use Rattle.runs.specs.declared.replaying.Run.{Run}
use Rattle.runs.proofs.Playing.{ledger_calls}
use Rattle.rebuild.specs.Readings.{hold_bytes, readings_page, readings_calls, first_refusal}
use Rattle.rebuild.specs.Rebuilt.{figures_of, RecordsAgree, Laid, Answered, Rebuilt}
use Rattle.rebuild.proofs.Writing.{wrote}

-- a record that is there has the figures that it would have
there : (h : History) (r : Result Record ChunkFault) (f : Figures) → has_record h.ledger.phase ≡ true → RecordedBy h (answered said_record r)
    → IfOk (answered said_record r) (λ q. q.figures ≡ f) → IsOkAnd (answered said_record r) (λ q. q.figures ≡ f)
there h (Ok p) f closed by figures = figures
there h (Err e) f closed by figures = let z : ◌≡◌ {A = Result ARecord ChunkFault} (Err e) (Ok (chunk_record h.context h.ledger.pages)) = by.answer ∙ there_record h.context h.ledger closed in cc

-- a run of readings has its record, with their figures
ran_with : {K L B S : Type 0} {gk : kinds.Ghosts K} {gl : level_coders.Ghosts L} {gb : body_coders.Ghosts B} {gs : sinks.Ghosts S} {gt : stores.Ghosts S}
    (x : Context) (k : S) (hs : List (Option (Bits ℕ))) (s : List ℕ) (rs : List Answer) (r : Run K L B S gk gl gb gs gt) (s' : List ℕ)
    → (layout x).max_rep_level ≡ 0 → (layout x).max_def_level ≡ 1 → Ran x k (readings_calls hs) s rs r s' → first_refusal rs ≡ None
    → (took_all (layout x) (readings_calls hs) rs ≡ readings_page hs) × IsOkAnd (answered said_record r.record) (λ q. q.figures ≡ figures_of x hs)
ran_with {gs = gs} {gt = gt} x k hs s rs r s' er ed ran none =
    let w = wrote gt.meaning gs.meaning hs (begun x (held gt.meaning k)) k s rs r.chunk.state.sink s' er ed ran.threaded none in (
      w.0,
      there (run_of x (held gt.meaning k) (readings_calls hs) rs) r.record (figures_of x hs) w.1 ran.says.record_says
          (subst (λ p. IfOk (answered said_record r.record) (λ q. q.figures ≡ figures x.kind (layout x) p)) w.0 ran.says.figures),
    )

-- that two records have the same figures, by what these are
exactly_by : (p q f g : Figures) (b : Bool) → p ≡ f → q ≡ g → Exactly (b ≡ true) (p ≡ q) → Exactly (b ≡ true) (f ≡ g)
exactly_by p q f g b ep eq e = record { then = λ y. sym ep ∙ e.then y ∙ eq; back = λ y. e.back (ep ∙ y ∙ sym eq) }

none_first : (o p : Option ChunkFault) → None ≡ option_or o p → (o ≡ None) × (p ≡ None)
none_first None p e = (refl, sym e)
none_first (Some f) p e = cc

both_there : (p q : Result Record ChunkFault) (f g : Figures) (b : Bool) → IsOkAnd (answered said_record p) (λ a. a.figures ≡ f) → IsOkAnd (answered said_record q) (λ a. a.figures ≡ g)
    → Exactly (b ≡ true) (RecordsAgree p q) → Exactly (b ≡ true) (f ≡ g)
both_there (Ok p) (Ok q) f g b ep eq e = exactly_by (said_record p).figures (said_record q).figures f g b ep eq e
both_there (Ok p) (Err d) f g b ep eq e = absurd eq
both_there (Err d) q f g b ep eq e = absurd ep

both_agree : (p q : Result Record ChunkFault) (f g : Figures) (b : Bool) → IsOkAnd (answered said_record p) (λ a. a.figures ≡ f) → IsOkAnd (answered said_record q) (λ a. a.figures ≡ g)
    → Exactly (b ≡ true) (RecordsAgree p q) → IfOk (answered said_record p) (λ a. IfOk (answered said_record q) (SameFigures a)) → b ≡ true
both_agree (Ok p) (Ok q) f g b ep eq e s = e.back s
both_agree (Ok p) (Err d) f g b ep eq e s = absurd eq
both_agree (Err d) q f g b ep eq e s = absurd ep

-- a list whose calls are those that were laid, whatever stands beside them
same_calls : (ps qs : List (Played (Bits ℕ))) (hs : List (Option (Bits ℕ))) → calls_in hold_bytes ps ≡ readings_calls hs → lent_calls qs ≡ lent_calls ps
    → calls_in hold_bytes qs ≡ readings_calls hs
same_calls ps qs hs laid same = ledger_calls hold_bytes qs ∙ ap (map (call_of hold_bytes)) same ∙ sym (ledger_calls hold_bytes ps) ∙ laid

module _ {K L B S M C T : Type 0} {gk : kinds.Ghosts K} {gl : level_coders.Ghosts L} {gb : body_coders.Ghosts B} {gs : sinks.Ghosts S} {gt : stores.Ghosts S}
    {gm : level_coders.Ghosts M} {gc : body_coders.Ghosts C} {us : sinks.Ghosts T} {ut : stores.Ghosts T}
    (x y : Context) (k : S) (j : T) (hs rs : List (Option (Bits ℕ))) (scratch left : List ℕ)
    (r : Run K L B S gk gl gb gs gt) (q : Run K M C T gk gm gc us ut) (cs ds ps qs : List (Played (Bits ℕ))) where
  -- lists that were laid, and then played
  pub record LaidAndPlayed : Type 0 where
    pub one : calls_in hold_bytes cs ≡ readings_calls hs
    pub other : calls_in hold_bytes ds ≡ readings_calls rs
    pub one_same : lent_calls ps ≡ lent_calls cs
    pub other_same : lent_calls qs ≡ lent_calls ds
    pub ran : RanBoth x k (calls_in hold_bytes cs) (answers_in ps) y j (calls_in hold_bytes ds) (answers_in qs) scratch r q left
    pub room : 9227 ≤ length scratch

  laid_lists : LaidAndPlayed → Laid hs rs ps qs
  laid_lists g = record { one = same_calls cs ps hs g.one g.one_same; other = same_calls ds qs rs g.other g.other_same }

  -- a call was refused
  pub refused : (f : ChunkFault) → LaidAndPlayed → Some f ≡ option_or (first_refusal (answers_in ps)) (first_refusal (answers_in qs))
      → Answered gt.meaning gs.meaning ut.meaning us.meaning x y k j hs rs f ps qs
  refused f g first = record {
    laid = laid_lists g;
    scratch = scratch;
    room = g.room;
    between = g.ran.between;
    left = left;
    sink = r.chunk.state.sink;
    other_sink = q.chunk.state.sink;
    written = subst (λ c. Threaded gt.meaning gs.meaning (begun x (held gt.meaning k)) c k scratch (answers_in ps) r.chunk.state.sink g.ran.between) g.one g.ran.one.threaded;
    rebuilt = subst (λ c. Threaded ut.meaning us.meaning (begun y (held ut.meaning j)) c j g.ran.between (answers_in qs) q.chunk.state.sink left) g.other g.ran.other.threaded;
    first = first;
  }

  -- none was: each record is there, and has the figures of its readings
  pub both : (b : Bool) → LaidAndPlayed → (layout x).max_rep_level ≡ 0 → (layout x).max_def_level ≡ 1 → (layout y).max_rep_level ≡ 0 → (layout y).max_def_level ≡ 1
      → None ≡ option_or (first_refusal (answers_in ps)) (first_refusal (answers_in qs))
      → Exactly (b ≡ true) (RecordsAgree r.record q.record) → Rebuilt x y k j hs rs r q b ps qs
  both b g xr xd yr yd none same =
      let a : RanBoth x k (readings_calls hs) (answers_in ps) y j (readings_calls rs) (answers_in qs) scratch r q left =
      subst (λ c. RanBoth x k c (answers_in ps) y j (readings_calls rs) (answers_in qs) scratch r q left) g.one
      (subst (λ d. RanBoth x k (calls_in hold_bytes cs) (answers_in ps) y j d (answers_in qs) scratch r q left) g.other g.ran) in
      let n = none_first (first_refusal (answers_in ps)) (first_refusal (answers_in qs)) none in
      let w = ran_with x k hs scratch (answers_in ps) r a.between xr xd a.one n.0 in
      let v = ran_with y j rs a.between (answers_in qs) q left yr yd a.other n.1 in
      record {
        laid = laid_lists g;
        scratch = scratch;
        room = g.room;
        left = left;
        ran = a;
        none = none;
        written = w.1;
        rebuilt = v.1;
        exactly = both_there r.record q.record (figures_of x hs) (figures_of y rs) b w.1 v.1 same;
        same = λ e. both_agree r.record q.record (figures_of x hs) (figures_of y rs) b w.1 v.1 same (a.agree (w.0 ∙ ap readings_page e ∙ sym v.0));
      }

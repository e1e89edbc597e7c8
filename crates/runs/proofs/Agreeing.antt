-- Two records compared: the figures are those of all that each chunk took, and figures depend on that alone.
use Rattle.kinds.specs.declared.kind.Kind as kinds
use Rattle.level_coder.specs.declared.coder.LevelCoder as level_coders
use Rattle.body_coder.specs.declared.coder.BodyCoder as body_coders
use Rattle.sinks.specs.declared.sink.PageSink as sinks
use Rattle.sinks.specs.declared.store.PageStore as stores
use Rattle.std.proofs.Common.{◌≡◌, ℕ, List, Bool, true, false, ◌&&◌, IfOk, Ok, Err, Result, sym, refl, ap, ◌∙◌, ⊎_elim}
use Rattle.std.proofs.lemmas.Bool.{cases_Bool}
use Rattle.refusals.specs.declared.fault.ChunkFault.{ChunkFault}
use Rattle.refusals.specs.declared.fault.ChunkFault.TheVariants.{NoRecord}
use Rattle.columns.specs.Columns.{layout_of}
use Rattle.ledger.specs.Context.{Context, layout}
use Rattle.ledger.specs.Figures.{figures}
use Rattle.ledger.specs.Laws.{Exactly}
use Rattle.ledger.specs.Ledger.{Ledger, has_record, input}
use Rattle.ledger.specs.Pages.{Page}
use Rattle.ledger.specs.Records.{Record, chunk_record}
use Rattle.ledger.specs.Answers.{record_answer}
use Rattle.chunk.specs.Reads.{RecordedBy}
use Rattle.chunk.proofs.Recording.{refused_record, there_record}
use Rattle.chunk.specs.Histories.{History}
use Rattle.ledger.specs.Ledger.{Call, Answer}
use Rattle.runs.specs.Runs.{Ran}
use Rattle.runs.specs.Both.{Agreed, SameFigures, RanBoth}
use Rattle.runs.specs.declared.replaying.Run.{Run}

-- figures need the kind and the column's maxima alone, which settings do not change
alike : (x y : Context) (p q : Page) → x.kind ≡ y.kind → x.column ≡ y.column → p ≡ q → figures x.kind (layout x) p ≡ figures y.kind (layout y) q
alike x y p q k c e = λ j. figures (k j) (layout_of (c j) x.settings) (e j)

has_from_ok : (x : Context) (l : Ledger) (r : Record) → Ok r ≡ record_answer x l → has_record l.phase ≡ true
has_from_ok x l r e =
    ⊎_elim (λ h. h) (λ h. let z : ◌≡◌ {A = Result Record ChunkFault} (Ok r) (Err NoRecord) = e ∙ refused_record x l h in cc) (cases_Bool (has_record l.phase))

none_from_err : (x : Context) (l : Ledger) (f : ChunkFault) → Err f ≡ record_answer x l → (f ≡ NoRecord) × (has_record l.phase ≡ false)
none_from_err x l f e =
    ⊎_elim
    (λ h. let z : ◌≡◌ {A = Result Record ChunkFault} (Err f) (Ok (chunk_record x l.pages)) = e ∙ there_record x l h in cc)
    (λ h. (let z : ◌≡◌ {A = Result Record ChunkFault} (Err f) (Err NoRecord) = e ∙ refused_record x l h in cc, h))
    (cases_Bool (has_record l.phase))

and_none : (b : Bool) → (b && false) ≡ false
and_none true = refl
and_none false = refl

module _ (h k : History) where
  pub agreed_none : (f : ChunkFault) → RecordedBy h (Err f) → Agreed h k (Err f)
  agreed_none f r = let n = none_from_err h.context h.ledger f r.answer in (n.0, ap (λ b. b && has_record k.ledger.phase) n.1)

  pub agreed_other : (f : ChunkFault) → RecordedBy k (Err f) → Agreed h k (Err f)
  agreed_other f r = let n = none_from_err k.context k.ledger f r.answer in (n.0, ap (λ b. has_record h.ledger.phase && b) n.1 ∙ and_none (has_record h.ledger.phase))

  pub agreed : (r s : Record) (b : Bool) → RecordedBy h (Ok r) → RecordedBy k (Ok s) → Exactly (b ≡ true) (r.figures ≡ s.figures) → Agreed h k (Ok b)
  agreed r s b one two e = record {
    records = ap (λ c. c && has_record k.ledger.phase) (has_from_ok h.context h.ledger r one.answer) ∙ has_from_ok k.context k.ledger s two.answer;
    exactly = record {
      then = λ y. sym one.figures ∙ e.then y ∙ two.figures;
      back = λ y. e.back (one.figures ∙ y ∙ sym two.figures);
    };
    same_input = λ y c i. e.back (one.figures ∙ alike h.context k.context (input h.ledger) (input k.ledger) y c i ∙ sym two.figures);
  }

-- records of two runs of one column that took the same
pub same_figures : (x y : Context) (p q : Page) (r s : Result Record ChunkFault) → x.kind ≡ y.kind → x.column ≡ y.column
    → IfOk r (λ a. a.figures ≡ figures x.kind (layout x) p) → IfOk s (λ a. a.figures ≡ figures y.kind (layout y) q) → p ≡ q → IfOk r (λ a. IfOk s (SameFigures a))
same_figures x y p q (Ok r) (Ok s) k c f g e = f ∙ alike x y p q k c e ∙ sym g
same_figures x y p q (Ok r) (Err d) k c f g e = tt
same_figures x y p q (Err d) s k c f g e = tt

-- two runs of one column, one after the other
pub ran_both : {K L B S M C T : Type 0} {gk : kinds.Ghosts K} {gl : level_coders.Ghosts L} {gb : body_coders.Ghosts B} {gs : sinks.Ghosts S} {gt : stores.Ghosts S}
    {gm : level_coders.Ghosts M} {gc : body_coders.Ghosts C} {hs : sinks.Ghosts T} {ht : stores.Ghosts T}
    (x : Context) (k : S) (cs : List Call) (rs : List Answer) (y : Context) (j : T) (ds : List Call) (qs : List Answer)
    (s : List ℕ) (r : Run K L B S gk gl gb gs gt) (mid : List ℕ) (q : Run K M C T gk gm gc hs ht) (s' : List ℕ)
    → x.kind ≡ y.kind → x.column ≡ y.column → Ran x k cs s rs r mid → Ran y j ds mid qs q s' → RanBoth x k cs rs y j ds qs s r q s'
ran_both x k cs rs y j ds qs s r mid q s' same column one other = record {
  between = mid;
  one = one;
  other = other;
  agree = λ e. same_figures x y _ _ _ _ same column one.says.figures other.says.figures e;
}

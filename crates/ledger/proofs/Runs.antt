-- What a ledger took: calls add to the joined input what they took, and turning a page leaves it as it was.
use Rattle.std.proofs.Common.{◌≡◌, ℕ, zero, suc, Bool, true, false, cond, ◌⊎◌, List, [], ◌∷◌, ◌++◌, length, count_by, eqb, Ok, Err, Result, sym, refl, ap, ◌∙◌, inl, inr, ⊎_elim}
use Rattle.std.proofs.lemmas.List.{nil_from_length}
use Rattle.std.proofs.lemmas.Bool.{eqb-true}
use Rattle.kinds.specs.Meaning.{Meaning}
use Rattle.pages.specs.declared.layout.Layout.{Layout}
use Rattle.columns.specs.Columns.{layout_of}
use Rattle.columns.specs.declared.column.Column.{Column}
use Rattle.columns.specs.declared.settings.Settings.{Settings}
use Rattle.refusals.specs.Refusals.{Test, tested}
use Rattle.refusals.specs.declared.fault.ChunkFault.{ChunkFault}
use Rattle.ledger.specs.Pages.{Page, blank, join, joined, levels}
use Rattle.ledger.specs.Batches.{Batch, taken}
use Rattle.ledger.specs.Answers.{write_tests, written, end_tests, end_answer}
use Rattle.ledger.specs.Context.{Context, layout, bytes}
use Rattle.ledger.specs.Figures.{figures}
use Rattle.ledger.specs.Ledger.{Ledger, Call, Answer, batch, cut, close, batched, ended, input, adds, turned, fed, fed_all}
use Rattle.ledger.specs.Records.{chunk_record}
use Rattle.ledger.specs.Runs.{opened, took, took_all}
use Rattle.ledger.proofs.Joining.{join_blank, join_assoc, joined_push}

-- a page without levels, of which levels and values are as many as they should be, is blank
pub blank_page : (most : ℕ) (p : Page) → length p.reps ≡ length p.defs → length p.values ≡ count_by (eqb most) p.defs → levels p ≡ 0 → p ≡ blank
blank_page most p paired counted e =
    let none = nil_from_length p.defs e in
    let reps = nil_from_length p.reps (paired ∙ e) in
    let values = nil_from_length p.values (counted ∙ ap (λ ds. count_by (eqb most) ds) none) in
    λ i. record { reps = reps i; defs = none i; values = values i }

-- with an empty open page, all that was taken is in the pages written
pub input_written : (l : Ledger) → l.page ≡ blank → input l ≡ joined l.pages
input_written l e = ap (join (joined l.pages)) e ∙ join_blank (joined l.pages)

pub input_adds : (l : Ledger) (p : Page) → input (adds l p) ≡ join (input l) p
input_adds l p = sym (join_assoc (joined l.pages) l.page p)

pub input_turned : (n : ℕ) (l : Ledger) → input (turned n l) ≡ input l
input_turned zero l = refl
input_turned (suc n) l = join_blank (joined (l.pages ++ (l.page ∷ []))) ∙ joined_push l.pages l.page

pub input_fed : (f : Layout) (l : Ledger) (c : Call) (r : Answer) → input (fed f l c r) ≡ join (input l) (took f c r)
input_fed f l (batch b) (batched (Ok a)) = input_turned a.pages_cut (adds l (taken f b)) ∙ input_adds l (taken f b)
input_fed f l (batch b) (batched (Err e)) = sym (join_blank (input l))
input_fed f l (batch b) (ended r) = sym (join_blank (input l))
input_fed f l cut (ended (Ok n)) = input_turned n l ∙ sym (join_blank (input l))
input_fed f l cut (ended (Err e)) = sym (join_blank (input l))
input_fed f l close (ended (Ok n)) = input_turned n l ∙ sym (join_blank (input l))
input_fed f l close (ended (Err e)) = sym (join_blank (input l))
input_fed f l cut (batched r) = sym (join_blank (input l))
input_fed f l close (batched r) = sym (join_blank (input l))

-- what a ledger holds behind what it held is what its calls took
pub input_fed_all : (f : Layout) (l : Ledger) (cs : List Call) (rs : List Answer) → input (fed_all f l cs rs) ≡ join (input l) (took_all f cs rs)
input_fed_all f l [] rs = sym (join_blank (input l))
input_fed_all f l (c ∷ cs) [] = sym (join_blank (input l))
input_fed_all f l (c ∷ cs) (r ∷ rs) =
    input_fed_all f (fed f l c r) cs rs
    ∙ ap (λ p. join p (took_all f cs rs)) (input_fed f l c r)
    ∙ join_assoc (input l) (took f c r) (took_all f cs rs)

-- ---- ends

ok_past : {A : Type 0} (b : Bool) (f : ChunkFault) (q : Result A ChunkFault) (y : A) → cond b (Err f) q ≡ Ok y → q ≡ Ok y
ok_past true f q y e = cc
ok_past false f q y e = e

ok_behind : {A : Type 0} (ts : List Test) (r : Result A ChunkFault) (y : A) → tested ts r ≡ Ok y → r ≡ Ok y
ok_behind [] r y e = e
ok_behind (t ∷ ts) r y e = ok_behind ts r y (ok_past t.holds t.fault (tested ts r) y e)

same_ok : (a b : ℕ) (r : Result ℕ ChunkFault) → r ≡ Ok a → r ≡ Ok b → a ≡ b
same_ok a b r h k = cc

none_or_one : (empty : Bool) (ts : List Test) (n : ℕ) → cond empty (Ok 0) (tested ts (Ok 1)) ≡ Ok n → ((empty ≡ true) × (n ≡ 0)) ⊎ (n ≡ 1)
none_or_one true ts n e = inl (refl, same_ok n 0 (Ok 0) e refl)
none_or_one false ts n e = inr (same_ok n 1 (Ok 1) (ok_behind ts (Ok 1) n e) refl)

-- a cut or close that is not refused leaves no page open
pub ended_blank : (x : Context) (takes : ℕ → Bool) (room : ℕ) (l : Ledger) (most n : ℕ) → length l.page.reps ≡ length l.page.defs
    → length l.page.values ≡ count_by (eqb most) l.page.defs → end_answer x takes room l ≡ Ok n → (turned n l).page ≡ blank
ended_blank x takes room l most n paired counted e =
    ⊎_elim
    (λ h. ap (λ k. (turned k l).page) h.1 ∙ blank_page most l.page paired counted (eqb-true (levels l.page) 0 h.0))
    (λ h. ap (λ k. (turned k l).page) h)
    (none_or_one (eqb (levels l.page) 0) (write_tests takes (length l.pages) (length (bytes x l.page))) n (ok_behind (end_tests l room) (written x takes l) n e))

-- ---- figures

-- figures are those of what was joined, however it was cut into pages
pub figures_agree : (m : Meaning) (l : Layout) (ps qs : List Page) → joined ps ≡ joined qs → figures m l (joined ps) ≡ figures m l (joined qs)
figures_agree m l ps qs e = ap (figures m l) e

-- of a layout figures and batches need the maxima alone, which settings do not change
pub figures_alike : (m : Meaning) (col : Column) (set other : Settings) (p : Page) → figures m (layout_of col set) p ≡ figures m (layout_of col other) p
figures_alike m col set other p = refl

pub taken_alike : (col : Column) (set other : Settings) (b : Batch) → taken (layout_of col set) b ≡ taken (layout_of col other) b
taken_alike col set other b = refl

-- two chunks of one kind and column whose joined pages are the same have the same figures in their records
pub records_agree : (x y : Context) (ps qs : List Page) → x.kind ≡ y.kind → x.column ≡ y.column → joined ps ≡ joined qs
    → (chunk_record x ps).figures ≡ (chunk_record y qs).figures
records_agree x y ps qs k c e = λ i. figures (k i) (layout_of (c i) x.settings) (e i)

-- the record of a run that left no page open has the figures of what its calls took
pub run_figures : (x : Context) (cs : List Call) (rs : List Answer) → (fed_all (layout x) (opened x) cs rs).page ≡ blank
    → (chunk_record x (fed_all (layout x) (opened x) cs rs).pages).figures ≡ figures x.kind (layout x) (took_all (layout x) cs rs)
run_figures x cs rs e =
    let l = fed_all (layout x) (opened x) cs rs in
    ap (figures x.kind (layout x)) (sym (input_written l e) ∙ input_fed_all (layout x) (opened x) cs rs)

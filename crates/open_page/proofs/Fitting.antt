-- The levels of a page within its limits fit a page's lists, and its plain bytes are whole values.
use Rattle.std.proofs.Common.{◌≡◌, ℕ, ◌+◌, ◌*◌, ◌%◌, ◌^◌, ◌<◌, ◌≤◌, true, eqb, List, ◌++◌, length, drop, Some, None, Option, sym, ap, ◌∙◌, subst, ⊎_elim, arith}
use Rattle.std.specs.List.{AllByRecursion}
use Rattle.std.proofs.ByRecursion.{All-weaker}
use Rattle.std.proofs.lemmas.Nat.{mod-mul-add}
use Rattle.std.proofs.lemmas.Bool.{cond-true, cond-false, eq-eqb, ne_eqb, cases_eq, cases_lt}
use Rattle.kinds.specs.Plain.{sized, Laid}
use Rattle.level_coder.specs.Coding.{Coding}
use Rattle.body_coder.specs.Body.{Body, whole}
use Rattle.pages.specs.declared.layout.Layout.{Layout}
use Rattle.pages.specs.Layout.{page_bytes, page_size, PageSize, SizeIsLength}
use Rattle.pages.specs.Pages.{ListFits, PageFits, Assembled}
use Rattle.pages.specs.Widths.{bit_length}
use Rattle.pages.proofs.Bits.{wide_enough}
use Rattle.ledger.specs.Pages.{Page, plains}
use Rattle.intake.proofs.Weights.{plains_fixed}
use Rattle.open_page.specs.Pages.{Allowed, WellFormed, Joinable}
use Rattle.open_page.specs.Opened.{Sized}

list_fits : (most : ℕ) (ls : List ℕ) → most ≤ 15 → length ls ≤ 1024 → AllByRecursion (λ x. x ≤ most) ls → ListFits most ls
list_fits most ls narrow few range = record {
  few = few;
  narrow = narrow;
  fit = All-weaker (λ x. x ≤ most) (λ x. x < 2 ^ bit_length most) (λ x h. omega (arith, wide_enough most narrow)) ls range;
}

pub plains_whole : (b : Body) (l : Layout) (vs : List (List ℕ)) → Joinable b l → AllByRecursion (λ v. sized l.width v ≡ true) vs
    → whole b.joins l.width (length (plains l.width vs)) ≡ true
plains_whole b l vs joins sizes =
    let w = l.width in
    let n : ℕ = length (plains w vs) in
    ⊎_elim
    (λ z. cond-true (eqb w 0) b.joins (eqb (n % w) 0) (eq-eqb w 0 z) ∙ joins z)
    (λ z.
    let some : 0 < w = omega arith in
    let long : n ≡ length vs * w + 0 = omega (arith, plains_fixed w vs some sizes) in
    let rest : n % w ≡ 0 = ap (λ k. k % w) long ∙ mod-mul-add (length vs) w 0 some in
    cond-false (eqb w 0) b.joins (eqb (n % w) 0) (ne_eqb w 0 z) ∙ eq-eqb (n % w) 0 rest)
    (cases_eq w 0)

pub page_fits : (b : Body) (l : Layout) (p : Page) → Allowed l → Joinable b l → WellFormed l p → PageFits b l p.reps p.defs (plains l.width p.values)
page_fits b l p a joins w = record {
  repetition = list_fits l.max_rep_level p.reps a.repetition (omega (arith, w.few, w.paired)) w.rep_range;
  definition = list_fits l.max_def_level p.defs a.definition w.few w.def_range;
  plain_bytes = plains_whole b l p.values joins w.sizes;
}

module _ (c : Coding) (b : Body) (l : Layout) (p : Page) (a : Allowed l) (joins : Joinable b l) (w : WellFormed l p) where
  abbrev whole_page : List ℕ
  whole_page = page_bytes c b l p.reps p.defs (plains l.width p.values)

  laid : (out out' : List ℕ) (r : Option ℕ) → Assembled c b l p.reps p.defs (plains l.width p.values) out out' r → Laid whole_page out out' r
  laid out out' None s =
      (⊎_elim (λ h. h) (λ h. absurd (s.1 (page_fits b l p a joins w) h)) (cases_lt (length out) (length whole_page)), s.0)
  laid out out' (Some k) s = (s.1, omega (arith, s.1, s.2), s.3 ∙ ap (λ n. whole_page ++ drop n out) s.1)

  -- what assembling the lists of the page answers
  pub laid_out : (out out' : List ℕ) (r : Option ℕ) (reps defs plain : List ℕ) → reps ≡ p.reps → defs ≡ p.defs → plain ≡ plains l.width p.values
      → Assembled c b l reps defs plain out out' r → Laid whole_page out out' r
  laid_out out out' r reps defs plain er ed ep s =
      laid out out' r (subst (λ x. Assembled c b l p.reps p.defs x out out' r) ep (subst (λ x. Assembled c b l p.reps x plain out out' r) ed (subst (λ x. Assembled c b l x defs plain out out' r) er s)))

  -- what asking for its size answers
  pub sized_whole : (n k : ℕ) (r : Option ℕ) → n ≡ length p.defs → k ≡ length (plains l.width p.values) → PageSize c l n k r → SizeIsLength c b l → Sized whole_page r
  sized_whole n k None en ek s long = absurd (s (record {
    levels = omega (arith, en, w.few);
    repetition = a.repetition;
    definition = a.definition;
    plain = omega (arith, ek, w.light);
  }))
  sized_whole n k (Some z) en ek s long =
      let e : length whole_page ≡ page_size c l n k =
      long p.reps p.defs (plains l.width p.values) w.paired (plains_whole b l p.values joins w.sizes)
      ∙ ap (λ i. page_size c l i (length (plains l.width p.values))) (sym en) ∙ ap (page_size c l n) (sym ek) in
      (ap Some (s.1 ∙ sym e), omega (arith, s.1, s.2, e))

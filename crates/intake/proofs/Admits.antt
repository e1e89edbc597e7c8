-- What is known of a batch that is not refused by itself.
use Rattle.std.proofs.Common.{◌≡◌, ℕ, zero, suc, ◌≤◌, Bool, true, false, not, ◌&&◌, eqb, List, [], map, length, replicate, ℤ, pos, negsuc, IfOk, Ok, Err, Option, Result, unwrap_or, refl, sym, ap, ◌∙◌, subst, ⊎_elim, arith}
use lib.Signed.{le_z}
use Rattle.std.specs.List.{AllByRecursion}
use Rattle.std.proofs.ByRecursion.{All-weaker, All-map}
use Rattle.std.proofs.lemmas.List.{length-map, length-replicate, take-map}
use Rattle.std.proofs.lemmas.Bool.{ltb-false, leb-true, eqb-true, eq-eqb, ne_eqb, not-false, and_parts, or_parts, cases_eq, cond-true, cond-false, false≢true}
use Rattle.pages.specs.declared.layout.Layout.{Layout}
use Rattle.refusals.specs.Refusals.{tested}
use Rattle.refusals.specs.declared.fault.ChunkFault.{ChunkFault}
use Rattle.refusals.proofs.Numbering.{numbered}
use Rattle.ledger.specs.Pages.{plains}
use Rattle.ledger.specs.Batches.{Batch, natural, levels_at, looked_at, miscounted, in_range, stray, stray_place, needed, values_of, unsized_place, level_tests, value_tests, intake_tests, Admitted}
use Rattle.ledger.specs.Numbers.{intake_order}
use Rattle.intake.specs.Admitting.{intake_of, admission, level_admission, value_admission, AdmitNumbered}
use Rattle.intake.specs.declared.intake.Intake.{Intake}
use Rattle.intake.proofs.Fronts.{all_from_leading}
use Rattle.intake.proofs.Tested.{Passed, tested-append, tested_err, tested_ok, passed_from_ok, ok_from_ok}

-- ---- levels

module _ (most n : ℕ) (given : Option (List ℤ)) where
  levels_none : most ≡ 0 → levels_at most n given ≡ replicate n 0
  levels_none z = cond-true (eqb most 0) (replicate n 0) (map natural (unwrap_or given [])) (eq-eqb most 0 z)

  levels-some : (most ≡ 0 → ⊥) → levels_at most n given ≡ map natural (unwrap_or given [])
  levels-some z = cond-false (eqb most 0) (replicate n 0) (map natural (unwrap_or given [])) (ne_eqb most 0 z)

  not_miscounted : (b : Bool) → b ≡ false → (not b && not (eqb (length (unwrap_or given [])) n)) ≡ false → length (unwrap_or given []) ≡ n
  not_miscounted true z h = absurd (false≢true (sym z))
  not_miscounted false z h = eqb-true (length (unwrap_or given [])) n (not-false (eqb (length (unwrap_or given [])) n) h)

  levels-count : miscounted most n given ≡ false → length (levels_at most n given) ≡ n
  levels-count h =
      ⊎_elim (λ z. ap length (levels_none z) ∙ length-replicate n 0)
      (λ z. ap length (levels-some z) ∙ length-map (unwrap_or given []) natural ∙ not_miscounted (eqb most 0) (ne_eqb most 0 z) h) (cases_eq most 0)

  all_zero : (k : ℕ) → AllByRecursion (λ x. x ≤ most) (replicate k 0)
  all_zero zero = tt
  all_zero (suc k) = (omega arith, all_zero k)

  natural_few : (x : ℤ) → in_range most x ≡ true → natural x ≤ most
  natural_few (pos k) h = leb-true k most (and_parts (le_z (pos 0) (pos k)) (le_z (pos k) (pos most)) h).1
  natural_few (negsuc k) h = omega arith

  levels_range : stray most given ≡ false → AllByRecursion (λ x. x ≤ most) (levels_at most n given)
  levels_range h =
      ⊎_elim (λ z. subst (AllByRecursion (λ x. x ≤ most)) (sym (levels_none z)) (all_zero n))
      (λ z.
      let e : looked_at most given ≡ unwrap_or given [] = cond-false (eqb most 0) [] (unwrap_or given []) (ne_eqb most 0 z) in
      let a = all_from_leading (in_range most) (looked_at most given) (ltb-false (stray_place most given) (length (looked_at most given)) h) in
      let a' = subst (AllByRecursion (λ x. in_range most x ≡ true)) e a in
      subst (AllByRecursion (λ x. x ≤ most)) (sym (levels-some z)) (All-map (λ x. x ≤ most) natural (unwrap_or given []) (All-weaker (λ x. in_range most x ≡ true) (λ x. natural x ≤ most) natural_few (unwrap_or given []) a')))
      (cases_eq most 0)

-- ---- the whole batch

pub admitted : (l : Layout) (b : Batch) → Passed (intake_tests l b) → Admitted l b
admitted l b h =
    let counts = or_parts (miscounted l.max_def_level b.count b.defs) (miscounted l.max_rep_level b.count b.reps) h.1.1.0 in
    let v = h.1.1.1.1.1.1 in
    record {
      few = ltb-false 256 b.count h.0;
      rep_count = levels-count l.max_rep_level b.count b.reps counts.1;
      def_count = levels-count l.max_def_level b.count b.defs counts.0;
      rep_range = levels_range l.max_rep_level b.count b.reps h.1.1.1.1.0;
      def_range = levels_range l.max_def_level b.count b.defs h.1.1.1.0;
      enough = ltb-false (length b.values) (needed l b) v.0;
      sizes = all_from_leading _ (values_of l b) (ltb-false (unsized_place l.width (values_of l b)) (length (values_of l b)) v.1.0);
      light = ltb-false 4096 (length (plains l.width (values_of l b))) v.1.1.0;
    }

pub made_admitted : (l : Layout) (b : Batch) (r : Result Intake ChunkFault) → r ≡ admission l b → IfOk r (λ _. Admitted l b)
made_admitted l b (Ok y) e = admitted l b (passed_from_ok (intake_tests l b) (Ok (intake_of l b)) y (sym e))
made_admitted l b (Err y) e = tt

pub intake_from_ok : (l : Layout) (b : Batch) (i : Intake) → Ok i ≡ admission l b → i ≡ intake_of l b
intake_from_ok l b i e = let z : ◌≡◌ {A = Result Intake ChunkFault} (Ok (intake_of l b)) (Ok i) = ok_from_ok (intake_tests l b) (Ok (intake_of l b)) i (sym e) in cc

pub admit_numbered : AdmitNumbered
admit_numbered = record { each = λ l b. numbered (intake_tests l b) (intake_of l b) (admission l b) (intake_order l b) refl refl }

-- its two parts, the levels first
pub split : (l : Layout) (b : Batch) → admission l b ≡ tested (level_tests l b) (value_admission l b)
split l b = tested-append (level_tests l b) (value_tests l b) (Ok (intake_of l b))

pub levels_refused : (l : Layout) (b : Batch) (a : Result Unit ChunkFault) (f : ChunkFault) → a ≡ level_admission l b → a ≡ Err f → Err f ≡ admission l b
levels_refused l b a f tells h = sym (split l b ∙ tested_err (level_tests l b) tt f (value_admission l b) (sym tells ∙ h))

pub levels_passed : (l : Layout) (b : Batch) (a : Result Unit ChunkFault) → a ≡ level_admission l b → a ≡ Ok tt → value_admission l b ≡ admission l b
levels_passed l b a tells h = sym (split l b ∙ tested_ok (level_tests l b) tt tt (value_admission l b) (sym tells ∙ h))

pub ruleset value_steps = (take-map, length-map)

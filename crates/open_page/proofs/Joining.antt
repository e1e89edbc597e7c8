-- A page within its limits that takes an admitted batch is within them again.
use Rattle.std.proofs.Common.{◌≡◌, ◌+◌, ◌≤◌, true, eqb, length, arith}
use Rattle.std.proofs.lemmas.List.{length-append, length-take-le}
use Rattle.std.proofs.ByRecursion.{All-append}
use Rattle.kinds.specs.Plain.{sized}
use Rattle.pages.specs.declared.layout.Layout.{Layout}
use Rattle.ledger.specs.Pages.{Page, join, levels, plains}
use Rattle.ledger.specs.Batches.{Batch, taken, needed, reps_of, defs_of, values_of, Admitted}
use Rattle.ledger.proofs.Joining.{count_by-append, plains_add}
use Rattle.open_page.specs.Pages.{WellFormed}

pub well-join : (l : Layout) (p : Page) (b : Batch) → WellFormed l p → Admitted l b → levels p + b.count ≤ 1024 → length (plains l.width p.values) ≤ 4095
    → WellFormed l (join p (taken l b))
well-join l p b w a few light = record {
  few = omega (arith, length-append p.defs (defs_of l b), a.def_count, few);
  paired = omega (arith, length-append p.reps (reps_of l b), length-append p.defs (defs_of l b), w.paired, a.rep_count, a.def_count);
  rep_range = All-append (λ x. x ≤ l.max_rep_level) p.reps (reps_of l b) w.rep_range a.rep_range;
  def_range = All-append (λ x. x ≤ l.max_def_level) p.defs (defs_of l b) w.def_range a.def_range;
  counted = omega (
    arith,
    length-append p.values (values_of l b),
    length-take-le (needed l b) b.values a.enough,
    count_by-append (eqb l.max_def_level) p.defs (defs_of l b),
    w.counted,
  );
  sizes = All-append (λ v. sized l.width v ≡ true) p.values (values_of l b) w.sizes a.sizes;
  light = omega (arith, (plains_add l.width).both p (taken l b), light, a.light);
}

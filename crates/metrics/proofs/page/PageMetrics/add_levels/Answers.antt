use Rattle.std.proofs.Common.{not, eqb, sym, ap, ◌∙◌, arith}
use Rattle.std.proofs.lemmas.List.{append-nil, length-append}
use Rattle.ledger.specs.Figures.{nan_entry}
use Rattle.figures.specs.Figures.{nan_count_of}
use Rattle.metrics.proofs.Tallies.{sum-joined}
use Rattle.metrics.proofs.page.PageMetrics.add_levels.Goals as goal

pub returns : goal.returns
returns c = λ m p few-reps few-defs t.
    let l = c.args.layout in
    let rs = c.args.reps.now in
    let ds = c.args.defs.now in
    record {
      levels = omega (arith, c.saturating_add-self.ensures, t.levels, length-append p.defs ds, few-defs);
      rows = sum-joined (eqb 0) p.reps rs _ _ _ (omega arith) t.rows c.row_count.ensures c.saturating_add-self-2.ensures;
      nulls = sum-joined (λ d. not (eqb l.max_def_level d)) p.defs ds _ _ _ (omega arith) t.nulls c.null_count.ensures c.saturating_add-self-3.ensures;
      nans = t.nans ∙ ap (λ vs. nan_entry m (nan_count_of m vs)) (sym (append-nil p.values));
      reps = c.update_if_there.ensures l.max_rep_level p.reps (omega arith) t.reps;
      defs = c.update_if_there-2.ensures l.max_def_level p.defs (omega arith) t.defs;
    }

use Rattle.std.proofs.Common.{◌+◌, ◌-◌, ◌^◌, min, not, eqb, unwrap_or, sym, ap, ◌∙◌, arith}
use Rattle.std.proofs.lemmas.List.{length-append}
use Rattle.figures.specs.Figures.{smallest, largest, lesser, higher}
use Rattle.figures.proofs.Joined.{smallest-joined, largest-joined}
use Rattle.metrics.specs.Metrics.{kept}
use Rattle.metrics.proofs.Nans.{entry_value, nans_joined}
use Rattle.metrics.proofs.Tallies.{sum-joined, min_below}
use Rattle.metrics.proofs.column.ColumnMetrics.add_page.Goals as goal

pub returns : goal.returns
returns g c = λ l p q n few-reps few-defs few-values fits t u lo hi.
    let m = g.K.Kind.meaning in
    let most = l.max_def_level in
    record {
      bytes = c.saturating_add-self.ensures ∙ ap (λ k. min (k + c.args.size) (2 ^ 64 - 1)) t.bytes ∙ min_below (n + c.args.size) fits;
      rows = sum-joined (eqb 0) p.reps q.reps _ _ _ (omega arith) t.rows u.rows c.saturating_add-self-2.ensures;
      levels = omega (arith, c.saturating_add-self-3.ensures, t.levels, u.levels, length-append p.defs q.defs, few-defs);
      nulls = sum-joined (λ d. not (eqb most d)) p.defs q.defs _ _ _ (omega arith) t.nulls u.nulls c.saturating_add-self-4.ensures;
      nans =
          nans_joined m p.values q.values _ _ _ few-values t.nans
          (c.unwrap_or.ensures ∙ ap (λ o. unwrap_or o 0) u.nans ∙ entry_value m q.values) c.saturating_add-self-5.ensures;
      reps = c.add_if_there.ensures l.max_rep_level p.reps q.reps (omega arith) t.reps u.reps;
      defs = c.add_if_there-2.ensures most p.defs q.defs (omega arith) t.defs u.defs;
      min =
          c.take_min.ensures ∙ ap (λ o. lesser m o (kept c.args.min.now)) t.min
          ∙ ap (λ o. lesser m (smallest m p.values) o) lo ∙ sym (smallest-joined m p.values q.values);
      max =
          c.take_max.ensures ∙ ap (λ o. higher m o (kept c.args.max.now)) t.max
          ∙ ap (λ o. higher m (largest m p.values) o) hi ∙ sym (largest-joined m p.values q.values);
    }

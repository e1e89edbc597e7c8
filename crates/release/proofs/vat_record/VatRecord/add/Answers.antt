use Rattle.std.proofs.Common.{not, eqb, sym, ap, ◌∙◌, arith}
use Rattle.figures.specs.Figures.{smallest, largest, lesser, higher}
use Rattle.figures.proofs.Joined.{smallest-joined, largest-joined}
use Rattle.floats.specs.Floats.{double}
use Rattle.metrics.specs.Metrics.{kept}
use Rattle.metrics.proofs.Nans.{nans_joined}
use Rattle.metrics.proofs.Tallies.{sum-joined}
use Rattle.release.proofs.vat_record.VatRecord.add.Goals as goal

pub returns : goal.returns
returns c = λ l p q few-reps few-defs few-values t f.
    record {
      rows = sum-joined (eqb 0) p.reps q.reps _ _ _ (omega arith) t.rows (ap (λ x. x.rows) f) c.saturating_add-self.ensures;
      missing = sum-joined (λ d. not (eqb l.max_def_level d)) p.defs q.defs _ _ _ (omega arith) t.missing (ap (λ x. x.nulls) f) c.saturating_add-self-2.ensures;
      nans = nans_joined double p.values q.values _ _ _ few-values t.nans (ap (λ x. x.nans) f) c.saturating_add-self-3.ensures;
      min =
          c.take_min.ensures ∙ ap (λ o. lesser double o (kept c.args.chunk.now.min)) t.min
          ∙ ap (λ x. lesser double (smallest double p.values) x.min) f ∙ sym (smallest-joined double p.values q.values);
      max =
          c.take_max.ensures ∙ ap (λ o. higher double o (kept c.args.chunk.now.max)) t.max
          ∙ ap (λ x. higher double (largest double p.values) x.max) f ∙ sym (largest-joined double p.values q.values);
    }

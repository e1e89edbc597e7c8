use Rattle.std.proofs.Common.{◌+◌, ◌-◌, ◌^◌, min, not, eqb, length, count_by, sym, ap, ◌∙◌}
use Rattle.std.specs.Option.{option_map}
use Rattle.std.proofs.lemmas.List.{append-nil}
use Rattle.ledger.specs.Pages.{counts}
use Rattle.metrics.proofs.Nans.{entry-joined}
use Rattle.metrics.proofs.page.PageMetrics.add_nans.Goals as goal

pub returns : goal.returns
returns c = λ m l p vs is few t.
    let reps = sym (append-nil p.reps) in
    let defs = sym (append-nil p.defs) in
    record {
      levels = t.levels ∙ ap length defs;
      rows = t.rows ∙ ap (count_by (eqb 0)) reps;
      nulls = t.nulls ∙ ap (count_by (λ d. not (eqb l.max_def_level d))) defs;
      nans =
          c.more_nans-self.ensures ∙ ap (option_map (λ k. min (k + c.args.nans) (2 ^ 64 - 1))) t.nans
          ∙ entry-joined m p.values vs c.args.nans is few;
      reps = t.reps ∙ ap (counts l.max_rep_level) reps;
      defs = t.defs ∙ ap (counts l.max_def_level) defs;
    }

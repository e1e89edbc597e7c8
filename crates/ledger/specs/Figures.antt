-- The figures of what a page, or all pages joined, hold.
use Rattle.std.specs.Prelude.{ℕ, cond, List, Some, None, Option}
use Rattle.kinds.specs.Meaning.{Meaning}
use Rattle.figures.specs.Figures.{smallest, largest, nan_count_of}
use Rattle.pages.specs.declared.layout.Layout.{Layout}
use Rattle.ledger.specs.Pages.{Page, levels, rows, nulls, counts}

pub record Figures : Type 0 where
  pub rows : ℕ
  pub levels : ℕ
  pub nulls : ℕ
  pub nans : ℕ
  pub rep_counts : Option (List ℕ)
  pub def_counts : Option (List ℕ)
  pub min : Option (List ℕ)
  pub max : Option (List ℕ)

abbrev pub figures : Meaning → Layout → Page → Figures
figures m l p = record {
  rows = Rattle.ledger.specs.Pages.rows p;
  levels = Rattle.ledger.specs.Pages.levels p;
  nulls = Rattle.ledger.specs.Pages.nulls l.max_def_level p;
  nans = nan_count_of m p.values;
  rep_counts = counts l.max_rep_level p.reps;
  def_counts = counts l.max_def_level p.defs;
  min = smallest m p.values;
  max = largest m p.values;
}

-- the NaN count that an index has: absent for a kind without NaN
abbrev pub nan_entry : Meaning → ℕ → Option ℕ
nan_entry m n = cond m.has_nan (Some n) None

-- What the metrics of a page and of a chunk hold of the levels and values that they were given.
use Rattle.std.specs.Prelude.{◌≡◌, ℕ, List, Option}
use Rattle.buffers.specs.declared.buffer.Buffer.{Buffer}
use Rattle.kinds.specs.Meaning.{Meaning}
use Rattle.figures.specs.Figures.{smallest, largest, nan_count_of}
use Rattle.pages.specs.declared.layout.Layout.{Layout}
use Rattle.ledger.specs.Pages.{Page, levels, rows, nulls, counts}
use Rattle.ledger.specs.Figures.{nan_entry}
use Rattle.metrics.specs.declared.column.ColumnMetrics.{ColumnMetrics}
use Rattle.metrics.specs.declared.page.PageMetrics.{PageMetrics}

-- the bytes of a value that is kept: in a contract a buffer is the list of its bytes
abbrev pub kept : Option (Buffer 128) → Option (List ℕ)
kept v = v

-- the metrics are the counts of the page
pub record Measures (m : Meaning) (l : Layout) (p : Page) (t : PageMetrics) : Type 0 where
  pub levels : t.num_buffered_values ≡ Rattle.ledger.specs.Pages.levels p
  pub rows : t.num_buffered_rows ≡ Rattle.ledger.specs.Pages.rows p
  pub nulls : t.num_page_nulls ≡ Rattle.ledger.specs.Pages.nulls l.max_def_level p
  pub nans : t.num_page_nans ≡ nan_entry m (nan_count_of m p.values)
  pub reps : t.repetition_level_histogram ≡ counts l.max_rep_level p.reps
  pub defs : t.definition_level_histogram ≡ counts l.max_def_level p.defs

-- the metrics are the counts of all that the chunk's pages hold, and of their n bytes; min and max are its figures
pub record Sums (m : Meaning) (l : Layout) (p : Page) (n : ℕ) (t : ColumnMetrics) : Type 0 where
  pub bytes : t.total_bytes_written ≡ n
  pub rows : t.total_rows_written ≡ Rattle.ledger.specs.Pages.rows p
  pub levels : t.total_num_values ≡ Rattle.ledger.specs.Pages.levels p
  pub nulls : t.num_column_nulls ≡ Rattle.ledger.specs.Pages.nulls l.max_def_level p
  pub nans : t.num_column_nans ≡ nan_count_of m p.values
  pub reps : t.repetition_level_histogram ≡ counts l.max_rep_level p.reps
  pub defs : t.definition_level_histogram ≡ counts l.max_def_level p.defs
  pub min : kept t.min_column_value ≡ smallest m p.values
  pub max : kept t.max_column_value ≡ largest m p.values

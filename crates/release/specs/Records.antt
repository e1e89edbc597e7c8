-- What the records of a vat's chunks say together.
use Rattle.std.specs.Prelude.{◌≡◌}
use Rattle.floats.specs.Floats.{double}
use Rattle.figures.specs.Figures.{smallest, largest, nan_count_of}
use Rattle.metrics.specs.Metrics.{kept}
use Rattle.pages.specs.declared.layout.Layout.{Layout}
use Rattle.ledger.specs.Pages.{Page, rows, nulls}
use Rattle.release.specs.declared.vat_record.VatRecord.{VatRecord}

-- the figures of all that the chunks took, joined
pub record Says (l : Layout) (p : Page) (r : VatRecord) : Type 0 where
  pub rows : r.rows ≡ Rattle.ledger.specs.Pages.rows p
  pub missing : r.missing ≡ nulls l.max_def_level p
  pub nans : r.nans ≡ nan_count_of double p.values
  pub min : kept r.min ≡ smallest double p.values
  pub max : kept r.max ≡ largest double p.values

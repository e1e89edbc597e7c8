-- The refusals of a check, by computation.
use Rattle.std.proofs.Common.{refl}
use Rattle.refusals.proofs.Numbering.{numbered}
use Rattle.columns.specs.Columns.{check_tests, checked, check_order, CheckNumbered}

pub check_numbered : CheckNumbered
check_numbered = record { each = λ m c b col set. numbered (check_tests m c b col set) tt (checked m c b col set) check_order refl refl }

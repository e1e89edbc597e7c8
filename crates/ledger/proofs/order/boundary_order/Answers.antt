use Rattle.std.proofs.Common.{sym, subst}
use Rattle.ledger.specs.Laws.{BoundaryOrder as OrdersPages}
use Rattle.ledger.proofs.Ordering.{boundary_says}
use Rattle.ledger.proofs.order.boundary_order.Goals as goal

pub returns-clause-says : goal.returns-clause-says
returns-clause-says c = λ m cut ps f. subst (λ n. OrdersPages m cut ps n) (sym c.from_flags.ensures) (boundary_says m cut ps c.args.ascending c.args.descending f)

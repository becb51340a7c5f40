use Rattle.dso_report.proofs.ordering.ClosedOrder.{orders_are_closed}
use Rattle.dso_report.proofs.laws.orders_are_closed.Goals as goal

pub returns : goal.returns
returns c = orders_are_closed

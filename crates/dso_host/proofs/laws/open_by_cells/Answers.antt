use Rattle.dso_host.proofs.hosts.Slots.{open_by_cells}
use Rattle.dso_host.proofs.laws.open_by_cells.Goals as goal

pub returns : goal.returns
returns c = open_by_cells

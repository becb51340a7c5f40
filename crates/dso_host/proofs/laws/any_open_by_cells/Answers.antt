use Rattle.dso_host.proofs.hosts.Slots.{any_open_by_cells}
use Rattle.dso_host.proofs.laws.any_open_by_cells.Goals as goal

pub returns : goal.returns
returns c = any_open_by_cells

use Rattle.dso_host.proofs.hosts.Slots.{finished_by_cells}
use Rattle.dso_host.proofs.laws.finished_by_cells.Goals as goal

pub returns : goal.returns
returns c = finished_by_cells

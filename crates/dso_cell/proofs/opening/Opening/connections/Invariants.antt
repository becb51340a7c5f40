use Rattle.dso_cell.proofs.new_cells.SoFar.{AreSoFar}
use Rattle.dso_cell.proofs.opening.Opening.connections.Given as goal

abbrev pub invariant-loop-number : goal.invariant-loop-number
invariant-loop-number l = AreSoFar l.self.code.now l.self.resident l.self.losses.now l.self.breaks.now l.number l.cells.items l.ends.items

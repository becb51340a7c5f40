use Rattle.std.proofs.Common.{◌≡◌, ◌∷◌, map}
use Rattle.dso_cell.specs.declared.client_cell.ClientCell.{ClientCell}
use Rattle.dso_host.proofs.cells.Cells.into_logs.Given as goal

abbrev pub invariant-loop-cell : goal.invariant-loop-cell
invariant-loop-cell l = l.logs.items ≡ l.fn.self.server.log ∷ map (λ (cell : ClientCell). cell.log) l.yielded

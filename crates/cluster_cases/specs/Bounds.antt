-- What the cells of a cluster keep, turn by turn. A cell that is spent keeps nothing.
use Rattle.std.specs.Prelude.{◌≡◌, None, List, [], ◌∷◌}
use Rattle.dso_class.specs.declared.program.Program.{Program}
use Rattle.dso_class.specs.Sound.{IsSoundProgram}
use Rattle.dso_machine.specs.declared.code.Code.{Code}
use Rattle.dso_cell.specs.declared.client_cell.ClientCell.{ClientCell}
use Rattle.dso_cell.specs.declared.server_cell.ServerCell.{ServerCell}
use Rattle.dso_cell.specs.ClientCells.{ClientBounds}
use Rattle.dso_cell.specs.ServerCells.{ServerBounds}

-- where it isn't spent a client's cell keeps its bounds
abbrev pub ClientKeeps : Code → ClientCell → Type 0
ClientKeeps code cell = cell.spent ≡ None → ClientBounds code cell

-- so do those of all clients
abbrev pub ClientsKeep : Code → List ClientCell → Type 0
ClientsKeep code [] = Unit {0}
ClientsKeep code (cell ∷ cells) = ClientKeeps code cell × ClientsKeep code cells

-- and the server's
abbrev pub ServerKeeps : ServerCell → Type 0
ServerKeeps cell = cell.spent ≡ None → ServerBounds cell

-- The program is sound, and all cells keep their bounds.
pub record ClusterKeeps (program : Program) (cells : List ClientCell) (own : ServerCell) : Type 0 where
  pub sound : IsSoundProgram program
  pub clients : ClientsKeep program.code cells
  pub server : ServerKeeps own

-- What each cell of a program keeps from the first on.
use Rattle.std.specs.Prelude.{◌≡◌, None, List, [], ◌∷◌}
use Rattle.dso_machine.specs.declared.code.Code.{Code}
use Rattle.dso_cell.specs.declared.client_cell.ClientCell.{ClientCell}
use Rattle.dso_cell.specs.declared.server_cell.ServerCell.{ServerCell}
use Rattle.dso_cell.specs.ClientCells.{ClientBounds}
use Rattle.dso_cell.specs.ServerCells.{ServerBounds}

-- each client's cell is whole and keeps its bounds
abbrev pub AreBounded : Code → List ClientCell → Type 0
AreBounded code [] = Unit {0}
AreBounded code (cell ∷ cells) = (cell.spent ≡ None) × ClientBounds code cell × AreBounded code cells

-- so is and does the server's
abbrev pub IsServerBounded : ServerCell → Type 0
IsServerBounded cell = (cell.spent ≡ None) × ServerBounds cell

-- no client's cell has an entry
abbrev pub HaveNoEntry : List ClientCell → Type 0
HaveNoEntry [] = Unit {0}
HaveNoEntry (cell ∷ cells) = (cell.log.entries ≡ []) × HaveNoEntry cells

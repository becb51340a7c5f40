-- What a cell behind a lock stands for: for what the lock's type names.
use Rattle.std.specs.Prelude.{◌≡◌, Option, Some, None}
use Rattle.dso_machine.specs.declared.code.Code.{Code}
use Rattle.dso_cell.specs.declared.client_cell.ClientCell.{ClientCell}
use Rattle.dso_cell.specs.declared.server_cell.ServerCell.{ServerCell}
use Rattle.dso_cell.specs.ClientCells.{ClientBounds, ClientCellStands}
use Rattle.dso_cell.specs.Clusters.{Cluster}
use Rattle.dso_cell.specs.ServerCells.{ServerBounds, ServerCellStands}

-- A client's cell stands in the cluster that is named, and keeps its bounds; where none is named no cell does.
abbrev pub ClientStandsFor : Option Cluster → ClientCell → Type 0
ClientStandsFor None cell = ⊥
ClientStandsFor (Some cluster) cell = ClientCellStands cluster cell × ClientBounds cluster.code cell

-- so for the server's
abbrev pub ServerStandsFor : Option Cluster → ServerCell → Type 0
ServerStandsFor None cell = ⊥
ServerStandsFor (Some cluster) cell = ServerCellStands cluster cell × ServerBounds cell

-- the cluster that is named, if one is, runs this code
abbrev pub RunsNamed : Code → Option Cluster → Type 0
RunsNamed code None = Unit {0}
RunsNamed code (Some cluster) = cluster.code ≡ code

-- All cells of a cluster, side by side.
use Rattle.std.specs.Prelude.{ℕ, suc, ◌-◌, ◌≡◌, List, [], ◌∷◌, length, option_map, slice_get}
use Rattle.dso_law.specs.Settings.{Settings}
use Rattle.dso_machine.specs.declared.code.Code.{Code}
use Rattle.dso_cell.specs.declared.client_cell.ClientCell.{ClientCell}
use Rattle.dso_cell.specs.declared.server_cell.ServerCell.{ServerCell}
use Rattle.dso_cell.specs.declared.server_end.ServerEnd.{ServerEnd}
use Rattle.dso_cell.specs.ClientCells.{ClientCellStands}
use Rattle.dso_cell.specs.Clusters.{Cluster}
use Rattle.dso_cell.specs.ServerCells.{ServerCellStands}

-- The cluster that these cells go by: the ring up and the ring down of each client are those that their own ends give
-- into.
abbrev pub cluster_of : Code → Settings → List ClientCell → List ServerEnd → Cluster
cluster_of code p clients ends = record {
  code = code;
  settings = p;
  up = λ c. option_map (λ cell. cell.port.out) (slice_get clients (c - 1));
  down = λ c. option_map (λ end. end.port.out) (slice_get ends (c - 1));
}

-- each client's cell stands in the cluster, the first being that of this client
abbrev pub ClientCellsStand : Cluster → ℕ → List ClientCell → Type 0
ClientCellsStand cluster c [] = Unit {0}
ClientCellsStand cluster c (cell ∷ cells) = (cell.number ≡ c) × ClientCellStands cluster cell
    × ClientCellsStand cluster (suc c) cells

-- All cells of a cluster stand in it: that of each client, by rising number, and the server's, which has an end for
-- each.
pub record CellsStand (cluster : Cluster) (cells : List ClientCell) (cell : ServerCell) : Type 0 where
  pub clients : ClientCellsStand cluster 1 cells
  pub server : ServerCellStands cluster cell
  pub all : length cells ≡ cluster.settings.clients

-- The cells of a cluster, and what they stand for.
use Rattle.std.specs.Prelude.{◌≡◌}
use Rattle.dso_class.specs.declared.program.Program.{Program}
use Rattle.dso_world.specs.WorldSteps.{settings_of}
use Rattle.dso_cell.specs.CellsOfClusters as side
use Rattle.dso_cell.specs.Clusters.{Cluster}
use Rattle.dso_cell.specs.Meetings.{CellsLooked, KnowAllWith, ServerLooked}
use Rattle.dso_host.specs.declared.cells.Cells.{Cells}

-- The cells stand for the cluster: that of each client, by rising number, and the server's, which has an end for each.
abbrev pub CellsStand : Cluster → Cells → Type 0
CellsStand cluster cells = side.CellsStand cluster cells.clients.items cells.server

-- the cluster that cells go by themselves: the program, and the rings into which their own ends give
abbrev pub cluster_of : Program → Cells → Cluster
cluster_of program cells =
    side.cluster_of program.code (settings_of program) cells.clients.items cells.server.ends.items

-- The cells of a host stand for the cluster that they go by themselves.
abbrev pub HostStands : Program → Cells → Type 0
HostStands program cells = CellsStand (cluster_of program cells) cells

-- The cells stand for some cluster of the program, whatever its rings are named by.
pub record AreOf (program : Program) (cells : Cells) : Type 0 where
  pub cluster : Cluster
  pub code : cluster.code ≡ program.code
  pub settings : cluster.settings ≡ settings_of program
  pub stand : CellsStand cluster cells

-- each end of each client's connection knows all that is in the ring from which it takes
abbrev pub AllKnown : Cells → Type 0
AllKnown cells = KnowAllWith cells.clients.items cells.server

-- The cells looked into their rings, and nothing else of them changed.
pub record HaveLooked (old new : Cells) : Type 0 where
  pub clients : CellsLooked old.clients.items new.clients.items
  pub server : ServerLooked old.server new.server

-- Cells that rest stand for the cluster that they go by, and cells that stand for a cluster of a program are whole.
use Rattle.std.proofs.Common.{ℕ, suc, ◌+◌, ◌<◌, ◌^◌, ◌≡◌, refl, sym, ◌∙◌, subst, Option, Some, None, List, [], ◌∷◌, ◌++◌, length, arith}
use Rattle.dso_class.specs.declared.program.Program.{Program}
use Rattle.dso_world.specs.WorldSteps.{settings_of}
use Rattle.dso_cell.specs.declared.client_cell.ClientCell.{ClientCell}
use Rattle.dso_cell.specs.CellsOfClusters.{ClientCellsStand}
use Rattle.dso_cell.specs.Clusters.{Cluster}
use Rattle.dso_cell.specs.LockedCells.{ClientStandsFor}
use Rattle.dso_host.specs.declared.cells.Cells.{Cells}
use Rattle.dso_host.specs.Hosts.{cluster_of}
use Rattle.dso_host.specs.HostStates.{AreAtRest, AreWhole, CellsStandFor, ClientsStandFor, HasClients}
use Rattle.dso_host.specs.ProgramCells.{AreBounded}

clients_named : (cluster : Cluster) (c : ℕ) (cells : List ClientCell) → ClientCellsStand cluster c cells → AreBounded cluster.code cells → ClientsStandFor (Some cluster) c cells
clients_named cluster c [] stand bounded = tt
clients_named cluster c (cell ∷ cells) stand bounded = (stand.0, bounded.0, (stand.1, bounded.1), clients_named cluster (suc c) cells stand.2 bounded.2)

clients_stand : (cluster : Cluster) (c : ℕ) (cells : List ClientCell) → ClientsStandFor (Some cluster) c cells → ClientCellsStand cluster c cells
clients_stand cluster c [] named = tt
clients_stand cluster c (cell ∷ cells) named = (named.0, named.2.0, clients_stand cluster (suc c) cells named.3)

clients_bounded : (cluster : Cluster) (c : ℕ) (cells : List ClientCell) → ClientsStandFor (Some cluster) c cells → AreBounded cluster.code cells
clients_bounded cluster c [] named = tt
clients_bounded cluster c (cell ∷ cells) named = (named.1, named.2.1, clients_bounded cluster (suc c) cells named.3)

-- Those that rest stand for the cluster that they go by themselves.
pub rest_named : (program : Program) (cells : Cells) → AreAtRest program cells → CellsStandFor (Some (cluster_of program cells)) cells
rest_named program cells rest = record {
  clients = clients_named (cluster_of program cells) 1 cells.clients.items rest.host.stand.clients rest.whole.clients;
  whole = rest.whole.server.0;
  server = (rest.host.stand.server, rest.whole.server.1);
  all = rest.host.stand.all;
}

-- A byte tells each of them.
pub rest_few : (program : Program) (cells : Cells) → AreAtRest program cells → length cells.clients.items < 2 ^ 8
rest_few program cells rest =
    let all : length cells.clients.items ≡ length cells.server.ends.items = rest.host.stand.all ∙ sym rest.host.stand.server.parts.all in
    omega (arith, all, rest.whole.server.1.clients)

-- Those that stand for a cluster of the program are whole.
pub named_whole : (program : Program) (cluster : Cluster) (cells : Cells) → cluster.code ≡ program.code → cluster.settings ≡ settings_of program → CellsStandFor (Some cluster) cells
    → AreWhole program cells
named_whole program cluster cells code settings named = record {
  of = record {
    cluster = cluster;
    code = code;
    settings = settings;
    stand = record {
      clients = clients_stand cluster 1 cells.clients.items named.clients;
      server = named.server.0;
      all = named.all;
    };
  };
  clients = subst (λ k. AreBounded k cells.clients.items) code (clients_bounded cluster 1 cells.clients.items named.clients);
  server = (named.whole, named.server.1);
}

-- One more behind so many others.
one_behind : (named : Option Cluster) (c : ℕ) (cells : List ClientCell) (cell : ClientCell) → ClientsStandFor named c cells → cell.number ≡ c + length cells → cell.spent ≡ None
    → ClientStandsFor named cell → ClientsStandFor named c (cells ++ cell ∷ [])
one_behind named c [] cell all its whole stands = (omega (arith, its), whole, stands, tt)
one_behind named c (one ∷ cells) cell all its whole stands = (all.0, all.1, all.2, one_behind named (suc c) cells cell all.3 (omega (arith, its)) whole stands)

pub one_more : (named : Option Cluster) (cells : List ClientCell) (cell : ClientCell) → ClientsStandFor named 1 cells → cell.number ≡ suc (length cells) → cell.spent ≡ None
    → ClientStandsFor named cell → ClientsStandFor named 1 (cells ++ cell ∷ [])
one_more named cells cell all its whole stands = one_behind named 1 cells cell all (omega (arith, its)) whole stands

-- as many clients as there were
pub same_clients : (named : Option Cluster) (count other : ℕ) → other ≡ count → HasClients named count → HasClients named other
same_clients named count other same has = subst (HasClients named) (sym same) has

-- A host between epochs, and its cells within one.
use Rattle.std.specs.Prelude.{ℕ, suc, ◌≡◌, Option, Some, None, Result, Ok, Err, List, [], ◌∷◌, length}
use Rattle.dso_base.specs.declared.journal.Entry.{Entry}
use Rattle.dso_base.specs.declared.no_memory.NoMemory.{NoMemory}
use Rattle.dso_class.specs.declared.program.Program.{Program}
use Rattle.dso_cell.specs.declared.client_cell.ClientCell.{ClientCell}
use Rattle.dso_cell.specs.Clusters.{Cluster}
use Rattle.dso_cell.specs.LockedCells.{ClientStandsFor, ServerStandsFor}
use Rattle.dso_host.specs.declared.cells.Cells.{Cells}
use Rattle.dso_host.specs.Hosts.{AllKnown, AreOf}
use Rattle.dso_host.specs.Journals.{IsHost, IsJournalOf}
use Rattle.dso_host.specs.ProgramCells.{AreBounded, IsServerBounded}

-- ---- cells

-- The cells are whole: they stand for some cluster of the program, none is spent, and each keeps its bounds.
pub record AreWhole (program : Program) (cells : Cells) : Type 0 where
  pub of : AreOf program cells
  pub clients : AreBounded program.code cells.clients.items
  pub server : IsServerBounded cells.server

-- They rest: they are those of a host between epochs, and whole.
pub record AreAtRest (program : Program) (cells : Cells) : Type 0 where
  pub whole : AreWhole program cells
  pub host : IsHost program cells

-- ---- cells behind locks

-- each client's cell isn't spent, and stands for what is named, the first being that of client c
abbrev pub ClientsStandFor : Option Cluster → ℕ → List ClientCell → Type 0
ClientsStandFor named c [] = Unit {0}
ClientsStandFor named c (cell ∷ cells) = (cell.number ≡ c) × (cell.spent ≡ None) × ClientStandsFor named cell
    × ClientsStandFor named (suc c) cells

-- the cluster that is named, if one is, has so many clients
abbrev pub HasClients : Option Cluster → ℕ → Type 0
HasClients None count = Unit {0}
HasClients (Some cluster) count = count ≡ cluster.settings.clients

-- All cells stand for what is named, and none is spent.
pub record CellsStandFor (named : Option Cluster) (cells : Cells) : Type 0 where
  pub clients : ClientsStandFor named 1 cells.clients.items
  pub whole : cells.server.spent ≡ None
  pub server : ServerStandsFor named cells.server
  pub all : HasClients named (length cells.clients.items)

-- ---- the host, which contracts see as its cells, and as none where it is spent

-- the cells that a host keeps, unless memory was refused it
abbrev pub cells_in : Result Cells NoMemory → Option Cells
cells_in (Ok cells) = Some cells
cells_in (Err refused) = None

-- the host stands, unless it is spent: its cells are at rest
abbrev pub Stands : Program → Option Cells → Type 0
Stands program None = Unit {0}
Stands program (Some cells) = AreAtRest program cells

-- the entries are the journal that the logs of a host make that isn't spent
abbrev pub IsHostJournal : Program → Option Cells → List Entry → Type 0
IsHostJournal program None entries = ⊥
IsHostJournal program (Some cells) entries = IsJournalOf program cells entries

-- The journal that the logs of cells make. Entries stand with the newest first, but in a log and in what was gathered.
use Rattle.std.specs.List.{AllByRecursion, sum_by}
use Rattle.std.specs.Prelude.{ℕ, ◌≤◌, ◌^◌, ◌≡◌, cond, eqb, List, [], ◌∷◌, map, reverse}
use Rattle.dso_base.specs.declared.journal.Entry.{Entry}
use Rattle.dso_base.specs.declared.journal.Node.{Node}
use Rattle.dso_base.specs.declared.journal.Node.TheVariants.{Server, Client}
use Rattle.dso_class.specs.declared.program.Program.{Program}
use Rattle.dso_class.specs.Sound.{IsSoundProgram}
use Rattle.dso_legal.specs.Lawful.{IsLawful}
use Rattle.dso_legal.specs.Slots.{weight}
use Rattle.dso_log.specs.Logs.{Log, last_clock}
use Rattle.dso_log.specs.Merged.{AllKeep, IsMerged}
use Rattle.dso_line.specs.Letters.{newest}
use Rattle.dso_machine.specs.Next.{next_request}
use Rattle.dso_world.specs.WorldSteps.{settings_of}
use Rattle.dso_cell.specs.declared.client_cell.ClientCell.{ClientCell}
use Rattle.dso_host.specs.declared.cells.Cells.{Cells}
use Rattle.dso_host.specs.Hosts.{AllKnown, HostStands}

-- the log of the cell of client c, the newest entry first; none where there is no such cell
abbrev pub client_log : ℕ → List ClientCell → List Entry
client_log c [] = []
client_log c (cell ∷ cells) = cond (eqb c cell.number) (newest cell.log) (client_log c cells)

-- the log of each node
abbrev pub log_in : Cells → Node → List Entry
log_in cells Server = newest cells.server.log
log_in cells (Client c) = client_log c cells.clients.items

-- the logs of all cells
abbrev pub logs_in : Cells → List Log
logs_in cells = cells.server.log ∷ map (λ cell. cell.log) cells.clients.items

-- The entries are gathered of the cells: what `merge` gives of their logs, and these keep what logs do.
pub record IsGathered (cells : Cells) (entries : List Entry) : Type 0 where
  pub keep : AllKeep (logs_in cells)
  pub merged : IsMerged (logs_in cells) entries

-- the clock of no cell is past the limit
abbrev pub AreWithin : Cells → Type 0
AreWithin cells = AllByRecursion (λ log. last_clock log ≤ 2 ^ 28) (logs_in cells)

-- The cells of a host between epochs: they stand, each end knows all that is in its ring, and no clock is past the
-- limit.
pub record IsHost (program : Program) (cells : Cells) : Type 0 where
  pub stand : HostStands program cells
  pub known : AllKnown cells
  pub within : AreWithin cells

-- The entries are the journal of a host: its program is sound, and they are gathered of its cells.
pub record IsJournalOf (program : Program) (cells : Cells) (entries : List Entry) : Type 0 where
  pub sound : IsSoundProgram program
  pub host : IsHost program cells
  pub gathered : IsGathered cells entries

-- Gathered journals: whatever the nodes did, and in whatever order, the journal of a host is lawful for its program.
abbrev pub GatheredIsLawful : Type 0
GatheredIsLawful = (program : Program) (cells : Cells) (entries : List Entry) → IsJournalOf program cells entries
    → IsLawful (settings_of program) (next_request program.code) (reverse entries)

-- Weights: the weight of the journal that is gathered is that of all logs.
abbrev pub GatheredWeight : Type 0
GatheredWeight = (cells : Cells) (entries : List Entry) → IsGathered cells entries
    → weight (reverse entries) ≡ sum_by (λ log. weight (newest log)) (logs_in cells)

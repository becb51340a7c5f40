-- Cells that are whole rest once their ends have been brought together.
use Rattle.std.specs.List.{AllByRecursion}
use Rattle.std.proofs.Common.{◌≤◌, ◌^◌, List, [], ◌∷◌, map}
use Rattle.dso_class.specs.declared.program.Program.{Program}
use Rattle.dso_log.specs.Logs.{last_clock}
use Rattle.dso_machine.specs.declared.code.Code.{Code}
use Rattle.dso_cell.specs.declared.client_cell.ClientCell.{ClientCell}
use Rattle.dso_host.specs.declared.cells.Cells.{Cells}
use Rattle.dso_host.specs.Hosts.{AllKnown, HaveLooked, HostStands}
use Rattle.dso_host.specs.HostStates.{AreAtRest, AreWhole}
use Rattle.dso_host.specs.Journals.{AreWithin}
use Rattle.dso_host.specs.ProgramCells.{AreBounded}
use Rattle.dso_host.proofs.hosts.Kept.{looked_bounded, looked_of, looked_server_bounded}

clients_within : (code : Code) (cells : List ClientCell) → AreBounded code cells → AllByRecursion (λ log. last_clock log ≤ 2 ^ 28) (map (λ (cell : ClientCell). cell.log) cells)
clients_within code [] bounded = tt
clients_within code (cell ∷ cells) bounded = (bounded.1.within, clients_within code cells bounded.2)

-- no clock of whole cells is past the limit
pub whole_within : (program : Program) (cells : Cells) → AreWhole program cells → AreWithin cells
whole_within program cells whole = (whole.server.1.within, clients_within program.code cells.clients.items whole.clients)

-- Whole cells stay whole as they look into their rings,
pub looked_whole : (program : Program) (old new : Cells) → HaveLooked old new → AreWhole program old → AreWhole program new
looked_whole program old new looked whole = record {
  of = looked_of program old new looked whole.of;
  clients = looked_bounded program.code old new looked whole.clients;
  server = looked_server_bounded old new looked whole.server;
}

-- and rest where they know all that is in them.
pub at_rest : (program : Program) (old new : Cells) → AreWhole program old → HaveLooked old new → HostStands program new → AllKnown new → AreAtRest program new
at_rest program old new whole looked stand known =
    let still = looked_whole program old new looked whole in
    record { whole = still; host = record { stand = stand; known = known; within = whole_within program new still } }

-- New cells keep their bounds.
use Rattle.std.proofs.Common.{List, [], ◌∷◌}
use Rattle.dso_class.specs.declared.program.Program.{Program}
use Rattle.dso_class.specs.Sound.{IsSoundProgram}
use Rattle.dso_machine.specs.declared.code.Code.{Code}
use Rattle.dso_cell.specs.declared.client_cell.ClientCell.{ClientCell}
use Rattle.dso_cell.specs.declared.server_cell.ServerCell.{ServerCell}
use Rattle.dso_host.specs.ProgramCells.{AreBounded, IsServerBounded}
use Rattle.cluster_cases.specs.Bounds.{ClientsKeep, ClusterKeeps}

clients_keep : (code : Code) (cells : List ClientCell) → AreBounded code cells → ClientsKeep code cells
clients_keep code [] bounded = tt
clients_keep code (cell ∷ cells) bounded = (λ whole. bounded.1, clients_keep code cells bounded.2)

pub new_cells_keep : (program : Program) (cells : List ClientCell) (own : ServerCell) → IsSoundProgram program → AreBounded program.code cells
    → IsServerBounded own → ClusterKeeps program cells own
new_cells_keep program cells own sound clients server = record {
  sound = sound;
  clients = clients_keep program.code cells clients;
  server = λ whole. server.1;
}

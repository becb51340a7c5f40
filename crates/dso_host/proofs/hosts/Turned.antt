-- Whole cells stay whole behind a turn.
use Rattle.std.proofs.Common.{ℕ, zero, suc, ◌≡◌, refl, ap, subst, sym, Bool, Option, Some, None, Result, Ok, Err, OnOk, List, [], ◌∷◌, set, slice_get}
use Rattle.dso_base.specs.declared.no_memory.NoMemory.{NoMemory}
use Rattle.dso_class.specs.declared.program.Program.{Program}
use Rattle.dso_machine.specs.declared.code.Code.{Code}
use Rattle.dso_cell.specs.declared.client_cell.ClientCell.{ClientCell}
use Rattle.dso_cell.specs.declared.server_cell.ServerCell.{ServerCell}
use Rattle.dso_cell.specs.ClientCells.{ClientBounds, GoesOn}
use Rattle.dso_cell.specs.ServerCells.{ServerBounds, ServerGoesOn}
use Rattle.dso_host.specs.declared.cells.Cells.{Cells}
use Rattle.dso_host.specs.HostStates.{AreWhole}
use Rattle.dso_host.specs.ProgramCells.{AreBounded}
use Rattle.dso_host.proofs.hosts.Kept.{bounded_set, of_client_turn, of_server_turn}

-- one of several cells keeps its bounds
pub bounded_at : (code : Code) (cells : List ClientCell) (place : ℕ) (cell : ClientCell) → slice_get cells place ≡ Some cell → AreBounded code cells → ClientBounds code cell
bounded_at code [] place cell at bounded = absurd (cc at)
bounded_at code (one ∷ cells) zero cell at bounded = let is : one ≡ cell = cc at in subst (ClientBounds code) is bounded.1
bounded_at code (one ∷ cells) (suc place) cell at bounded = bounded_at code cells place cell at bounded.2

-- Where a client's cell makes a turn,
pub client_turned : (program : Program) (olds news : Cells) (place : ℕ) (old new : ClientCell) (answer : Result Bool NoMemory)
    → news.clients.items ≡ set olds.clients.items place new → news.server ≡ olds.server → slice_get olds.clients.items place ≡ Some old
    → new.number ≡ old.number → OnOk answer (GoesOn program.code old new) → OnOk answer (ClientBounds program.code new) → OnOk answer (new.spent ≡ None)
    → AreWhole program olds → OnOk answer (AreWhole program news)
client_turned program olds news place old new (Err refused) clients server at number goes bounds whole were = tt
client_turned program olds news place old new (Ok added) clients server at number goes bounds whole were = record {
  of = of_client_turn program olds news place old new clients server at number goes were.of;
  clients = subst (AreBounded program.code) (sym clients) (bounded_set program.code place olds.clients.items new whole bounds were.clients);
  server = subst (λ (cell : ServerCell). (cell.spent ≡ None) × ServerBounds cell) (sym server) were.server;
}

-- and where the server's does.
pub server_turned : (program : Program) (olds news : Cells) (answer : Result Bool NoMemory) → news.clients.items ≡ olds.clients.items
    → OnOk answer (ServerGoesOn program.code olds.server news.server) → OnOk answer (ServerBounds news.server) → OnOk answer (news.server.spent ≡ None)
    → AreWhole program olds → OnOk answer (AreWhole program news)
server_turned program olds news (Err refused) clients goes bounds whole were = tt
server_turned program olds news (Ok added) clients goes bounds whole were = record {
  of = of_server_turn program olds news clients goes were.of;
  clients = subst (AreBounded program.code) (sym clients) were.clients;
  server = (whole, bounds);
}

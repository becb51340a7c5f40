-- Cells stand and keep their bounds where one of them makes a turn, and where all look into their rings.
use Rattle.std.specs.List.{AllByRecursion}
use Rattle.std.proofs.Common.{ℕ, zero, suc, ◌<◌, ◌≤◌, ◌^◌, ◌≡◌, sym, ◌∙◌, ap, subst, Some, None, List, [], ◌∷◌, length, set, slice_get}
use Rattle.std.proofs.lemmas.List.{length-set}
use Rattle.dso_class.specs.declared.program.Program.{Program}
use Rattle.dso_machine.specs.declared.code.Code.{Code}
use Rattle.dso_cell.specs.declared.client_cell.ClientCell.{ClientCell}
use Rattle.dso_cell.specs.declared.server_cell.ServerCell.{ServerCell}
use Rattle.dso_cell.specs.declared.server_end.ServerEnd.{ServerEnd}
use Rattle.dso_cell.specs.CellsOfClusters.{ClientCellsStand}
use Rattle.dso_cell.specs.ClientCells.{ClientBounds, ClientCellStands, GoesOn}
use Rattle.dso_cell.specs.Clusters.{Cluster}
use Rattle.dso_cell.specs.Meetings.{CellLooked, CellsLooked, EndLooked, EndsLooked, ServerLooked}
use Rattle.dso_cell.specs.ServerCells.{ServerBounds, ServerCellStands, ServerEndBounds, ServerGoesOn}
use Rattle.dso_host.specs.declared.cells.Cells.{Cells}
use Rattle.dso_host.specs.Hosts.{AreOf, HaveLooked}
use Rattle.dso_host.specs.ProgramCells.{AreBounded, IsServerBounded}
use Rattle.dso_host.proofs.hosts.Looked.{as_many_ends, cells_still}

-- ---- one cell in the place of another

-- The cells stand where one stands in place of another of its number that goes on from it.
pub clients_set : (cluster : Cluster) (code : Code) → cluster.code ≡ code → (c place : ℕ) (cells : List ClientCell) (old new : ClientCell) → slice_get cells place ≡ Some old → new.number ≡ old.number → GoesOn code old new
    → ClientCellsStand cluster c cells → ClientCellsStand cluster c (set cells place new)
clients_set cluster code same c place [] old new at number goes stand = tt
clients_set cluster code same c zero (cell ∷ cells) old new at number goes stand =
    let is : cell ≡ old = cc at in
    (number ∙ ap (λ (one : ClientCell). one.number) (sym is) ∙ stand.0, goes.stands cluster same (subst (ClientCellStands cluster) is stand.1), stand.2)
clients_set cluster code same c (suc place) (cell ∷ cells) old new at number goes stand = (stand.0, stand.1, clients_set cluster code same (suc c) place cells old new at number goes stand.2)

-- They keep their bounds where that one keeps its own.
pub bounded_set : (code : Code) (place : ℕ) (cells : List ClientCell) (new : ClientCell) → new.spent ≡ None → ClientBounds code new → AreBounded code cells → AreBounded code (set cells place new)
bounded_set code place [] new whole bounds all = tt
bounded_set code zero (cell ∷ cells) new whole bounds all = (whole, bounds, all.2)
bounded_set code (suc place) (cell ∷ cells) new whole bounds all = (all.0, all.1, bounded_set code place cells new whole bounds all.2)

-- So those of a program are its cells still: where a client's cell makes a turn,
pub of_client_turn : (program : Program) (olds news : Cells) (place : ℕ) (old new : ClientCell) → news.clients.items ≡ set olds.clients.items place new → news.server ≡ olds.server
    → slice_get olds.clients.items place ≡ Some old → new.number ≡ old.number → GoesOn program.code old new → AreOf program olds → AreOf program news
of_client_turn program olds news place old new clients server at number goes of = record {
  cluster = of.cluster;
  code = of.code;
  settings = of.settings;
  stand = record {
    clients = subst (ClientCellsStand of.cluster 1) (sym clients) (clients_set of.cluster program.code of.code 1 place olds.clients.items old new at number goes of.stand.clients);
    server = subst (ServerCellStands of.cluster) (sym server) of.stand.server;
    all = ap length clients ∙ length-set olds.clients.items place new ∙ of.stand.all;
  };
}

-- and where the server's does.
pub of_server_turn : (program : Program) (olds news : Cells) → news.clients.items ≡ olds.clients.items → ServerGoesOn program.code olds.server news.server → AreOf program olds → AreOf program news
of_server_turn program olds news clients goes of = record {
  cluster = of.cluster;
  code = of.code;
  settings = of.settings;
  stand = record {
    clients = subst (ClientCellsStand of.cluster 1) (sym clients) of.stand.clients;
    server = goes.stands of.cluster of.code of.stand.server;
    all = ap length clients ∙ of.stand.all;
  };
}

-- ---- cells that look into their rings

cell_bounded : (code : Code) (old new : ClientCell) → CellLooked old new → ClientBounds code old → ClientBounds code new
cell_bounded code old new looked bounds = subst (ClientBounds code) (sym looked.rest) (record {
  few = bounds.few;
  within = bounds.within;
  runs = bounds.runs;
  records = bounds.records;
  holds = bounds.holds;
  rejoined = bounds.rejoined;
})

cells_bounded : (code : Code) (olds news : List ClientCell) → CellsLooked olds news → AreBounded code olds → AreBounded code news
cells_bounded code [] [] looked all = tt
cells_bounded code [] (new ∷ news) looked all = absurd looked
cells_bounded code (old ∷ olds) [] looked all = absurd looked
cells_bounded code (old ∷ olds) (new ∷ news) looked all = (
  ap (λ (cell : ClientCell). cell.spent) looked.0.rest ∙ all.0,
  cell_bounded code old new looked.0 all.1,
  cells_bounded code olds news looked.1 all.2,
)

end_bounded : (entries : ℕ) (old new : ServerEnd) → EndLooked old new → ServerEndBounds entries old → ServerEndBounds entries new
end_bounded entries old new looked bounds = record {
  own = ap (λ session. session.role) looked.port.session ∙ bounds.own;
  broke = subst (λ session. session.epoch ≤ entries) (sym looked.port.session) bounds.broke;
}

ends_bounded : (entries : ℕ) (olds news : List ServerEnd) → EndsLooked olds news → AllByRecursion (ServerEndBounds entries) olds → AllByRecursion (ServerEndBounds entries) news
ends_bounded entries [] [] looked all = tt
ends_bounded entries [] (new ∷ news) looked all = absurd looked
ends_bounded entries (old ∷ olds) [] looked all = absurd looked
ends_bounded entries (old ∷ olds) (new ∷ news) looked all = (end_bounded entries old new looked.0 all.0, ends_bounded entries olds news looked.1 all.1)

server_bounded : (old new : ServerCell) → ServerLooked old new → ServerBounds old → ServerBounds new
server_bounded old new looked bounds = subst ServerBounds (sym looked.rest) (record {
  few = bounds.few;
  within = bounds.within;
  given = bounds.given;
  ends = ends_bounded (length old.log.entries) old.ends.items new.ends.items looked.ends bounds.ends;
  clients = subst (λ n. n < 2 ^ 8) (sym (as_many_ends old.ends.items new.ends.items looked.ends)) bounds.clients;
})

-- The cells of clients keep their bounds,
pub looked_bounded : (code : Code) (old new : Cells) → HaveLooked old new → AreBounded code old.clients.items → AreBounded code new.clients.items
looked_bounded code old new looked all = cells_bounded code old.clients.items new.clients.items looked.clients all

-- so does the server's,
pub looked_server_bounded : (old new : Cells) → HaveLooked old new → IsServerBounded old.server → IsServerBounded new.server
looked_server_bounded old new looked bounds =
    (ap (λ (cell : ServerCell). cell.spent) looked.server.rest ∙ bounds.0, server_bounded old.server new.server looked.server bounds.1)

-- and they are cells of the program still.
pub looked_of : (program : Program) (old new : Cells) → HaveLooked old new → AreOf program old → AreOf program new
looked_of program old new looked of = record {
  cluster = of.cluster;
  code = of.code;
  settings = of.settings;
  stand = cells_still of.cluster old new looked of.stand;
}

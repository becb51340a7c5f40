-- Cells that look into their rings stand as before.
use Rattle.std.proofs.Common.{ℕ, suc, ◌≡◌, refl, sym, ◌∙◌, ap, subst, Option, Some, None, List, [], ◌∷◌, length, map, arith}
use Rattle.dso_base.specs.declared.journal.Entry.{Entry}
use Rattle.dso_session.specs.declared.session.Role.{Role}
use Rattle.dso_session.specs.declared.session.Role.TheVariants as role
use Rattle.dso_law.specs.Channels.{breaks, count_inputs, rejoins}
use Rattle.dso_port.specs.Ports.{EndGave, Giving, HasLooked, PortState, Taking, given}
use Rattle.rtrb.specs.Ring.{SameConsumer, SameProducer}
use Rattle.dso_line.specs.Letters.{newest}
use Rattle.dso_line.specs.Lines.{EndStands, Way, down_way, up_way}
use Rattle.dso_line.specs.Ways.{TookFromRing, posts_of}
use Rattle.dso_cell.specs.declared.client_cell.ClientCell.{ClientCell}
use Rattle.dso_cell.specs.declared.server_cell.ServerCell.{ServerCell}
use Rattle.dso_cell.specs.declared.server_end.ServerEnd.{ServerEnd}
use Rattle.dso_cell.specs.ClientCells.{ClientCellStands}
use Rattle.dso_cell.specs.Clusters.{Cluster, GivesInto, TakesFrom}
use Rattle.dso_cell.specs.Meetings.{CellLooked, CellsLooked, EndLooked, EndsLooked, ServerLooked}
use Rattle.dso_cell.specs.ServerCells.{ServerCellStands, ServerEndStands, ServerEndsStand}
use Rattle.dso_host.specs.declared.cells.Cells.{Cells}
use Rattle.dso_cell.specs.CellsOfClusters.{ClientCellsStand}
use Rattle.dso_host.specs.Hosts.{CellsStand, HaveLooked}
use Rattle.dso_host.specs.Journals.{logs_in}

-- ---- an end

module _ {M : Type 0} where
  gives_still : (name : Option (Giving M)) (old new : Giving M) → SameProducer old new → GivesInto name old → GivesInto name new
  gives_still None old new same gives = gives
  gives_still (Some name) old new same gives =
      ((same.0.0 ∙ gives.0.0, same.0.1 ∙ gives.0.1, same.0.2 ∙ gives.0.2, same.0.3 ∙ gives.0.3), same.1 ∙ gives.1)

  takes_still : (name : Option (Giving M)) (old new : Taking M) → SameConsumer old new → TakesFrom name old → TakesFrom name new
  takes_still None old new same takes = takes
  takes_still (Some name) old new same takes = (same.0.0 ∙ takes.0, same.0.1 ∙ takes.1, same.0.2 ∙ takes.2, same.0.3 ∙ takes.3)

end_still : {S T : Type 0} (own : Way S) (other : Way T) (end : Role) (es : List Entry) (greetings greeted : ℕ) (old new : PortState S T)
    → HasLooked old new → EndStands own other end es es greetings greeted old → EndStands own other end es es greetings greeted new
end_still own other end es greetings greeted old new looked stands = record {
  role = ap (λ session. session.role) looked.session ∙ stands.role;
  accepted = ap (λ session. session.accepted) looked.session ∙ stands.accepted;
  sends = subst (λ session. EndGave own.as_both own.cells own.is (posts_of own.direction es) greetings session (given new.out)) (sym looked.session)
      (subst (λ items. EndGave own.as_both own.cells own.is (posts_of own.direction es) greetings old.session items) (sym looked.gave) stands.sends);
  took = subst (λ items. TookFromRing other.cells other.is other.direction es greeted items) (sym looked.took) stands.took;
}

-- ---- cells

module _ (cluster : Cluster) where
  client_still : (old new : ClientCell) → CellLooked old new → ClientCellStands cluster old → ClientCellStands cluster new
  client_still old new looked stands = subst (ClientCellStands cluster) (sym looked.rest) (record {
    own = stands.own;
    parts = record {
      run = stands.parts.run;
      clocks = stands.parts.clocks;
      core = stands.parts.core;
      rejoined = stands.parts.rejoined;
      line = end_still (up_way old.number) (down_way old.number) role.Client (newest old.log) (count_inputs (rejoins old.number) (newest old.log)) (count_inputs (rejoins old.number) (newest old.log))
          old.port new.port looked.port stands.parts.line;
      gives = gives_still (cluster.up old.number) old.port.out new.port.out looked.port.rings.out stands.parts.gives;
      takes = takes_still (cluster.down old.number) old.port.into new.port.into looked.port.rings.into stands.parts.takes;
    };
  })

  clients_still : (c : ℕ) (olds news : List ClientCell) → CellsLooked olds news → ClientCellsStand cluster c olds → ClientCellsStand cluster c news
  clients_still c [] [] looked stand = tt
  clients_still c [] (new ∷ news) looked stand = absurd looked
  clients_still c (old ∷ olds) [] looked stand = absurd looked
  clients_still c (old ∷ olds) (new ∷ news) looked stand = (
    ap (λ cell. cell.number) looked.0.rest ∙ stand.0,
    client_still old new looked.0 stand.1,
    clients_still (suc c) olds news looked.1 stand.2,
  )

  server_end_still : (c : ℕ) (es : List Entry) (old new : ServerEnd) → EndLooked old new → ServerEndStands cluster c es old → ServerEndStands cluster c es new
  server_end_still c es old new looked stands = subst (ServerEndStands cluster c es) (sym looked.rest) (record {
    line = record {
      end = end_still (down_way c) (up_way c) role.Server es (count_inputs (breaks c) es) (count_inputs (rejoins c) es) old.port new.port looked.port stands.line.end;
      epoch = ap (λ session. session.epoch) looked.port.session ∙ stands.line.epoch;
      ready = ap (λ session. session.is_ready) looked.port.session ∙ stands.line.ready;
    };
    gives = gives_still (cluster.down c) old.port.out new.port.out looked.port.rings.out stands.gives;
    takes = takes_still (cluster.up c) old.port.into new.port.into looked.port.rings.into stands.takes;
    triggers = stands.triggers;
  })

  ends_still : (c : ℕ) (es : List Entry) (olds news : List ServerEnd) → EndsLooked olds news → ServerEndsStand cluster c es olds → ServerEndsStand cluster c es news
  ends_still c es [] [] looked stand = tt
  ends_still c es [] (new ∷ news) looked stand = absurd looked
  ends_still c es (old ∷ olds) [] looked stand = absurd looked
  ends_still c es (old ∷ olds) (new ∷ news) looked stand = (server_end_still c es old new looked.0 stand.0, ends_still (suc c) es olds news looked.1 stand.1)

-- as many cells, and as many ends
as_many_cells : (olds news : List ClientCell) → CellsLooked olds news → length news ≡ length olds
as_many_cells [] [] looked = refl
as_many_cells [] (new ∷ news) looked = absurd looked
as_many_cells (old ∷ olds) [] looked = absurd looked
as_many_cells (old ∷ olds) (new ∷ news) looked = omega (arith, as_many_cells olds news looked.1)

pub as_many_ends : (olds news : List ServerEnd) → EndsLooked olds news → length news ≡ length olds
as_many_ends [] [] looked = refl
as_many_ends [] (new ∷ news) looked = absurd looked
as_many_ends (old ∷ olds) [] looked = absurd looked
as_many_ends (old ∷ olds) (new ∷ news) looked = omega (arith, as_many_ends olds news looked.1)

server_still : (cluster : Cluster) (old new : ServerCell) → ServerLooked old new → ServerCellStands cluster old → ServerCellStands cluster new
server_still cluster old new looked stands = subst (ServerCellStands cluster) (sym looked.rest) (record {
  own = stands.own;
  parts = record {
    run = stands.parts.run;
    clocks = stands.parts.clocks;
    connections = stands.parts.connections;
    with_clients = stands.parts.with_clients;
    core = stands.parts.core;
    ends = ends_still cluster 1 (newest old.log) old.ends.items new.ends.items looked.ends stands.parts.ends;
    all = as_many_ends old.ends.items new.ends.items looked.ends ∙ stands.parts.all;
    shape = stands.parts.shape;
  };
})

-- The cells stand for their cluster as before,
pub cells_still : (cluster : Cluster) (old new : Cells) → HaveLooked old new → CellsStand cluster old → CellsStand cluster new
cells_still cluster old new looked stand = record {
  clients = clients_still cluster 1 old.clients.items new.clients.items looked.clients stand.clients;
  server = server_still cluster old.server new.server looked.server stand.server;
  all = as_many_cells old.clients.items new.clients.items looked.clients ∙ stand.all;
}

-- and their logs are the same.
client_logs_still : (olds news : List ClientCell) → CellsLooked olds news → map (λ cell. cell.log) news ≡ map (λ cell. cell.log) olds
client_logs_still [] [] looked = refl
client_logs_still [] (new ∷ news) looked = absurd looked
client_logs_still (old ∷ olds) [] looked = absurd looked
client_logs_still (old ∷ olds) (new ∷ news) looked =
    ap (λ log. log ∷ map (λ cell. cell.log) news) (ap (λ cell. cell.log) looked.0.rest) ∙ ap (λ logs. old.log ∷ logs) (client_logs_still olds news looked.1)

pub logs_still : (old new : Cells) → HaveLooked old new → logs_in new ≡ logs_in old
logs_still old new looked =
    ap (λ log. log ∷ map (λ cell. cell.log) new.clients.items) (ap (λ cell. cell.log) looked.server.rest)
    ∙ ap (λ logs. old.server.log ∷ logs) (client_logs_still old.clients.items new.clients.items looked.clients)

-- New cells stand in the cluster that they go by.
use Rattle.std.proofs.Common.{ℕ, suc, ◌+◌, ◌≡◌, refl, sym, ◌∙◌, ap, subst, Some, List, [], ◌∷◌, ◌++◌, length, option_map, map, slice_get, arith}
use Rattle.dso_base.specs.declared.journal.Node.TheVariants.{Client}
use Rattle.dso_base.specs.declared.journal.Trigger.{Trigger}
use Rattle.dso_law.specs.Settings.{Settings}
use Rattle.dso_machine.specs.declared.code.Code.{Code}
use Rattle.dso_port.specs.Ports.{AreTogether, Giving}
use Rattle.dso_server.specs.Lacking.{LacksNothing}
use Rattle.dso_server.specs.ServerStands.{ServerStands}
use Rattle.dso_server.specs.Triggers.{AreTriggersOf}
use Rattle.dso_client.specs.ClientStands.{ClientStands}
use Rattle.rtrb.specs.Ring.{SameProducer, known_items, received, sent}
use Rattle.dso_line.specs.Letters.{newest}
use Rattle.dso_cell.specs.declared.client_cell.ClientCell.{ClientCell}
use Rattle.dso_cell.specs.declared.server_cell.ServerCell.{ServerCell}
use Rattle.dso_cell.specs.declared.server_end.ServerEnd.{ServerEnd}
use Rattle.dso_cell.specs.Meetings.{AllKnow, AllTogether}
use Rattle.dso_cell.specs.CellOpenings.{AreNewCells, AreNewEnds, AreSettings, IsNewCell, IsNewEnd, IsNewServer}
use Rattle.dso_cell.specs.CellsOfClusters.{CellsStand, ClientCellsStand, cluster_of}
use Rattle.dso_cell.specs.ClientCells.{ClientCellStands, ClientPartsStand}
use Rattle.dso_cell.specs.Clusters.{Cluster, GivesInto, TakesFrom}
use Rattle.dso_cell.specs.ServerCells.{ServerCellStands, ServerEndStands, ServerEndsStand, ServerPartsStand}
use Rattle.dso_cell.proofs.new_cells.NewLines.{new_client_line, new_server_line}

-- an end gives into the ring that it names itself
itself : {M : Type 0} (end : Giving M) → SameProducer end end
itself end = ((refl, refl, refl, refl), refl)

-- the rings of a cluster are named by these ends, the first being that of client c
pub record AreNamed (cluster : Cluster) (c : ℕ) (cells : List ClientCell) (ends : List ServerEnd) : Type 0 where
  pub up : (k : ℕ) → cluster.up (k + c) ≡ option_map (λ cell. cell.port.out) (slice_get cells k)
  pub down : (k : ℕ) → cluster.down (k + c) ≡ option_map (λ end. end.port.out) (slice_get ends k)

first_named : (cluster : Cluster) (c : ℕ) (cell : ClientCell) (end : ServerEnd) (cells : List ClientCell) (ends : List ServerEnd) → AreNamed cluster c (cell ∷ cells) (end ∷ ends)
    → (cluster.up c ≡ Some cell.port.out) × (cluster.down c ≡ Some end.port.out)
first_named cluster c cell end cells ends named =
    let none : 0 + c ≡ c = omega arith in
    (subst (λ n. cluster.up n ≡ Some cell.port.out) none (named.up 0), subst (λ n. cluster.down n ≡ Some end.port.out) none (named.down 0))

rest_named : (cluster : Cluster) (c : ℕ) (cell : ClientCell) (end : ServerEnd) (cells : List ClientCell) (ends : List ServerEnd) → AreNamed cluster c (cell ∷ cells) (end ∷ ends)
    → AreNamed cluster (suc c) cells ends
rest_named cluster c cell end cells ends named = record {
  up = λ k. subst (λ n. cluster.up n ≡ option_map (λ cell. cell.port.out) (slice_get cells k)) (omega arith) (named.up (suc k));
  down = λ k. subst (λ n. cluster.down n ≡ option_map (λ end. end.port.out) (slice_get ends k)) (omega arith) (named.down (suc k));
}

module _ (code : Code) (p : Settings) (clients resident : ℕ) (losses breaks : List Trigger) (settings : AreSettings code clients resident losses breaks p)
    (cluster : Cluster) (its_code : cluster.code ≡ code) (its_settings : cluster.settings ≡ p) where
  -- ---- a client's cell
  cell_stands : (c : ℕ) (cell : ClientCell) (end : ServerEnd) → IsNewCell code resident c cell → AreTogether cell.port end.port → cluster.up c ≡ Some cell.port.out
      → cluster.down c ≡ Some end.port.out → ClientCellStands cluster cell
  cell_stands c cell end new together up down =
      let empty : newest cell.log ≡ [] = ap newest new.log in
      let parts : ClientPartsStand cluster c [] cell.core cell.rejoins cell.port = record {
        run = tt;
        clocks = tt;
        core = λ in_order. subst (λ code. ClientStands code cluster.settings c cell.core []) (sym its_code)
            (subst (λ p. ClientStands code p c cell.core []) (sym its_settings) (new.core p settings.shape settings.resident (settings.threads c)));
        rejoined = new.rejoins;
        line = new_client_line c cell.port new.port;
        gives = subst (λ name. GivesInto name cell.port.out) (sym up) (itself cell.port.out);
        takes = subst (λ name. TakesFrom name cell.port.into) (sym down) together.down;
      } in
      record {
        own = ap (λ log. log.node) new.log ∙ ap Client (sym new.number);
        parts = subst (λ n. ClientPartsStand cluster n (newest cell.log) cell.core cell.rejoins cell.port) (sym new.number)
            (subst (λ es. ClientPartsStand cluster c es cell.core cell.rejoins cell.port) (sym empty) parts);
      }

  cells_stand : (c : ℕ) (cells : List ClientCell) (ends : List ServerEnd) → AreNewCells code resident c cells → AllTogether cells ends → AreNamed cluster c cells ends → ClientCellsStand cluster c cells
  cells_stand c [] ends new paired named = tt
  cells_stand c (cell ∷ cells) [] new paired named = absurd paired
  cells_stand c (cell ∷ cells) (end ∷ ends) new paired named =
      let first = first_named cluster c cell end cells ends named in
      (new.0.number, cell_stands c cell end new.0 paired.0 first.0 first.1, cells_stand (suc c) cells ends new.1 paired.1 (rest_named cluster c cell end cells ends named))

  -- ---- the server's
  end_stands : (c : ℕ) (cell : ClientCell) (end : ServerEnd) → IsNewEnd losses breaks c end → AreTogether cell.port end.port → cluster.up c ≡ Some cell.port.out
      → cluster.down c ≡ Some end.port.out → ServerEndStands cluster c [] end
  end_stands c cell end new together up down = record {
    line = new_server_line c end.port new.port;
    gives = subst (λ name. GivesInto name end.port.out) (sym down) (itself end.port.out);
    takes = subst (λ name. TakesFrom name end.port.into) (sym up) together.up;
    triggers = subst (λ p. AreTriggersOf c p.losses p.breaks end.triggers) (sym its_settings)
        (subst (λ losses. AreTriggersOf c losses p.breaks end.triggers) (sym settings.losses) (subst (λ breaks. AreTriggersOf c losses breaks end.triggers) (sym settings.breaks) new.triggers));
  }

  ends_stand : (c : ℕ) (cells : List ClientCell) (ends : List ServerEnd) → AreNewEnds losses breaks c ends → AllTogether cells ends → AreNamed cluster c cells ends → ServerEndsStand cluster c [] ends
  ends_stand c cells [] new paired named = tt
  ends_stand c [] (end ∷ ends) new paired named = absurd paired
  ends_stand c (cell ∷ cells) (end ∷ ends) new paired named =
      let first = first_named cluster c cell end cells ends named in
      (end_stands c cell end new.0 paired.0 first.0 first.1, ends_stand (suc c) cells ends new.1 paired.1 (rest_named cluster c cell end cells ends named))

  server_stands : (cells : List ClientCell) (server : ServerCell) → IsNewServer code clients server → AreNewEnds losses breaks 1 server.ends.items → AllTogether cells server.ends.items
      → length server.ends.items ≡ clients → AreNamed cluster 1 cells server.ends.items → ServerCellStands cluster server
  server_stands cells server new ends paired all named =
      let parts : ServerPartsStand cluster [] server.core server.ends.items = record {
        run = tt;
        clocks = tt;
        connections = tt;
        with_clients = tt;
        core = λ in_order. subst (λ p. ServerStands p server.core [] × LacksNothing p server.core []) (sym its_settings) (new.core p settings.shape settings.runs settings.clients);
        ends = ends_stand 1 cells server.ends.items ends paired named;
        all = all ∙ sym settings.clients ∙ ap (λ p. p.clients) (sym its_settings);
        shape = ap (λ p. p.shape) its_settings ∙ settings.shape ∙ ap (λ code. code.shape) (sym its_code);
      } in
      record {
        own = ap (λ log. log.node) new.log;
        parts = subst (λ es. ServerPartsStand cluster es server.core server.ends.items) (sym (ap newest new.log)) parts;
      }

paired_alike : (cells : List ClientCell) (ends : List ServerEnd) → AllTogether cells ends → length cells ≡ length ends
paired_alike [] [] paired = refl
paired_alike [] (end ∷ ends) paired = absurd paired
paired_alike (cell ∷ cells) [] paired = absurd paired
paired_alike (cell ∷ cells) (end ∷ ends) paired = ap suc (paired_alike cells ends paired.1)

module _ (code : Code) (clients resident : ℕ) (losses breaks : List Trigger) (cells : List ClientCell) (server : ServerCell) where
  pub new_cells_stand : AreNewCells code resident 1 cells → AreNewEnds losses breaks 1 server.ends.items → AllTogether cells server.ends.items → length cells ≡ clients → IsNewServer code clients server
      → (p : Settings) → AreSettings code clients resident losses breaks p → CellsStand (cluster_of code p cells server.ends.items) cells server
  new_cells_stand new ends paired all first p settings =
      let cluster = cluster_of code p cells server.ends.items in
      let named : AreNamed cluster 1 cells server.ends.items = record {
        up = λ k. ap (λ n. option_map (λ cell. cell.port.out) (slice_get cells n)) (omega arith);
        down = λ k. ap (λ n. option_map (λ end. end.port.out) (slice_get server.ends.items n)) (omega arith);
      } in
      let alike = paired_alike cells server.ends.items paired in
      record {
        clients = cells_stand code p clients resident losses breaks settings cluster refl refl 1 cells server.ends.items new paired named;
        server = server_stands code p clients resident losses breaks settings cluster refl refl cells server first ends paired (sym alike ∙ all) named;
        all = all ∙ sym settings.clients;
      }

-- nothing went through an end of which no bytes are told
none_through : {X Y : Type 0} (f : X → Y) (xs : List X) → map f xs ≡ [] → xs ≡ []
none_through f [] none = refl
none_through f (x ∷ xs) none = absurd (cc none)

-- New cells know that their rings are empty.
pub new_cells_know : (code : Code) (resident : ℕ) (losses breaks : List Trigger) (c : ℕ) (cells : List ClientCell) (ends : List ServerEnd) → AreNewCells code resident c cells
    → AreNewEnds losses breaks c ends → AllTogether cells ends → AllKnow cells ends
new_cells_know code resident losses breaks c [] [] new ends paired = tt
new_cells_know code resident losses breaks c [] (end ∷ ends) new fresh paired = absurd paired
new_cells_know code resident losses breaks c (cell ∷ cells) [] new fresh paired = absurd paired
new_cells_know code resident losses breaks c (cell ∷ cells) (end ∷ ends) new fresh paired =
    let client = new.0.port in
    let server = fresh.0.port in (
      record {
        up = ap (λ xs. xs ++ known_items end.port.into) (none_through (λ item. item.items) (received end.port.into) server.took) ∙ server.none
            ∙ sym (none_through (λ item. item.items) (sent cell.port.out) client.gave);
        down = ap (λ xs. xs ++ known_items cell.port.into) (none_through (λ item. item.items) (received cell.port.into) client.took) ∙ client.none
            ∙ sym (none_through (λ item. item.items) (sent end.port.out) server.gave);
      },
      new_cells_know code resident losses breaks (suc c) cells ends new.1 fresh.1 paired.1,
    )

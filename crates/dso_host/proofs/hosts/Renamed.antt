-- Cells that stand for a cluster stand for the one that they go by themselves.
use Rattle.std.specs.List.{AllByRecursion}
use Rattle.std.proofs.Common.{ℕ, suc, ◌+◌, ◌-◌, ◌≡◌, refl, sym, ◌∙◌, ap, subst, Option, Some, None, List, [], ◌∷◌, length, option_map, slice_get, arith}
use Rattle.dso_base.specs.declared.journal.Entry.{Entry}
use Rattle.dso_base.specs.declared.journal.Node.TheVariants.{Server, Client}
use Rattle.dso_class.specs.declared.program.Program.{Program}
use Rattle.dso_client.specs.ClientStands.{ClientStands}
use Rattle.dso_port.specs.Ports.{Giving, Taking}
use Rattle.rtrb.specs.Ring.{IsPair, SameProducer}
use Rattle.dso_line.specs.Letters.{newest}
use Rattle.dso_server.specs.Lacking.{LacksNothing}
use Rattle.dso_server.specs.ServerStands.{ServerStands}
use Rattle.dso_server.specs.Triggers.{AreTriggersOf}
use Rattle.dso_world.specs.WorldSteps.{settings_of}
use Rattle.dso_cell.specs.declared.client_cell.ClientCell.{ClientCell}
use Rattle.dso_cell.specs.declared.server_cell.ServerCell.{ServerCell}
use Rattle.dso_cell.specs.declared.server_end.ServerEnd.{ServerEnd}
use Rattle.dso_cell.specs.ClientCells.{ClientCellStands}
use Rattle.dso_cell.specs.Clusters.{Cluster, GivesInto, TakesFrom}
use Rattle.dso_cell.specs.Logs.{IsLocalRun, LogIsInOrder}
use Rattle.dso_cell.specs.Meetings.{AllTogether}
use Rattle.dso_cell.specs.ServerCells.{IsWithClient, ServerCellStands, ServerEndsStand}
use Rattle.dso_host.specs.declared.cells.Cells.{Cells}
use Rattle.dso_cell.specs.CellsOfClusters.{ClientCellsStand}
use Rattle.dso_host.specs.Hosts.{CellsStand, HostStands, cluster_of}

module _ {M : Type 0} where
  -- the two ends of the ring of one name
  pub are_pair : (name : Option (Giving M)) (giving : Giving M) (taking : Taking M) → GivesInto name giving → TakesFrom name taking → IsPair giving taking
  are_pair None giving taking gives takes = absurd gives
  are_pair (Some name) giving taking gives takes =
      (takes.0 ∙ sym gives.0.0, takes.1 ∙ sym gives.0.1, takes.2 ∙ sym gives.0.2, takes.3 ∙ sym gives.0.3)

  -- an end gives into the ring that it names itself
  itself : (giving : Giving M) → SameProducer giving giving
  itself giving = ((refl, refl, refl, refl), refl)

  named_itself : (name : Option (Giving M)) (giving : Giving M) → name ≡ Some giving → GivesInto name giving
  named_itself name giving is = subst (λ name. GivesInto name giving) (sym is) (itself giving)

  named_pair : (name : Option (Giving M)) (giving : Giving M) (taking : Taking M) → name ≡ Some giving → IsPair giving taking → TakesFrom name taking
  named_pair name giving taking is pair = subst (λ name. TakesFrom name taking) (sym is) pair

-- The ends of each client's connection are the two ends of its rings.
pub together : (cluster : Cluster) (es : List Entry) (c : ℕ) (cells : List ClientCell) (ends : List ServerEnd) → length cells ≡ length ends
    → ClientCellsStand cluster c cells → ServerEndsStand cluster c es ends → AllTogether cells ends
together cluster es c [] [] same clients server = tt
together cluster es c [] (end ∷ ends) same clients server = absurd (omega (arith, same))
together cluster es c (cell ∷ cells) [] same clients server = absurd (omega (arith, same))
together cluster es c (cell ∷ cells) (end ∷ ends) same clients server =
    let parts = clients.1.parts in
    let up = subst (λ n. GivesInto (cluster.up n) cell.port.out) clients.0 parts.gives in
    let down = subst (λ n. TakesFrom (cluster.down n) cell.port.into) clients.0 parts.takes in (
      record {
        up = are_pair (cluster.up c) cell.port.out end.port.into up server.0.takes;
        down = are_pair (cluster.down c) end.port.out cell.port.into server.0.gives down;
      },
      together cluster es (suc c) cells ends (omega (arith, same)) clients.2 server.1,
    )

-- another cluster of this code and these settings, in which the rings have these names from a client on
pub record IsNamedBy (cluster other : Cluster) (c : ℕ) (cells : List ClientCell) (ends : List ServerEnd) : Type 0 where
  pub code : other.code ≡ cluster.code
  pub settings : other.settings ≡ cluster.settings
  pub up : (k : ℕ) → other.up (k + c) ≡ option_map (λ cell. cell.port.out) (slice_get cells k)
  pub down : (k : ℕ) → other.down (k + c) ≡ option_map (λ end. end.port.out) (slice_get ends k)

next_number : (k c : ℕ) → suc k + c ≡ k + suc c
next_number k c = omega arith

no_further : (c : ℕ) → 0 + c ≡ c
no_further c = omega arith

one_less : (k : ℕ) → k + 1 - 1 ≡ k
one_less k = omega arith

module _ (cluster other : Cluster) where
  -- so it is of the later ones
  later : (c : ℕ) (cell : ClientCell) (end : ServerEnd) (cells : List ClientCell) (ends : List ServerEnd) → IsNamedBy cluster other c (cell ∷ cells) (end ∷ ends) → IsNamedBy cluster other (suc c) cells ends
  later c cell end cells ends by = record {
    code = by.code;
    settings = by.settings;
    up = λ k. subst (λ n. other.up n ≡ option_map (λ cell. cell.port.out) (slice_get cells k)) (next_number k c) (by.up (suc k));
    down = λ k. subst (λ n. other.down n ≡ option_map (λ end. end.port.out) (slice_get ends k)) (next_number k c) (by.down (suc k));
  }

  -- the names of the first ones
  first_up : (c : ℕ) (cell : ClientCell) (cells : List ClientCell) (ends : List ServerEnd) → IsNamedBy cluster other c (cell ∷ cells) ends → other.up c ≡ Some cell.port.out
  first_up c cell cells ends by = subst (λ n. other.up n ≡ Some cell.port.out) (no_further c) (by.up 0)

  first_down : (c : ℕ) (end : ServerEnd) (cells : List ClientCell) (ends : List ServerEnd) → IsNamedBy cluster other c cells (end ∷ ends) → other.down c ≡ Some end.port.out
  first_down c end cells ends by = subst (λ n. other.down n ≡ Some end.port.out) (no_further c) (by.down 0)

  -- one client's cell
  client_renamed : (c : ℕ) (cell : ClientCell) (end : ServerEnd) → other.code ≡ cluster.code → other.settings ≡ cluster.settings
      → other.up c ≡ Some cell.port.out → other.down c ≡ Some end.port.out → GivesInto (cluster.down c) end.port.out
      → cell.number ≡ c → ClientCellStands cluster cell → ClientCellStands other cell
  client_renamed c cell end code settings up down gives its stands =
      let parts = stands.parts in
      let takes = subst (λ n. TakesFrom (cluster.down n) cell.port.into) its parts.takes in
      record {
        own = stands.own;
        parts = record {
          run = subst (λ k. IsLocalRun k other.settings (Client cell.number) (newest cell.log)) (sym code) (subst (λ p. IsLocalRun cluster.code p (Client cell.number) (newest cell.log)) (sym settings) parts.run);
          clocks = parts.clocks;
          core = subst (λ k. LogIsInOrder k other.settings (Client cell.number) (newest cell.log) → ClientStands k other.settings cell.number cell.core (newest cell.log)) (sym code)
              (subst (λ p. LogIsInOrder cluster.code p (Client cell.number) (newest cell.log) → ClientStands cluster.code p cell.number cell.core (newest cell.log)) (sym settings) parts.core);
          rejoined = parts.rejoined;
          line = parts.line;
          gives = subst (λ n. GivesInto (other.up n) cell.port.out) (sym its) (named_itself (other.up c) cell.port.out up);
          takes = subst (λ n. TakesFrom (other.down n) cell.port.into) (sym its) (named_pair (other.down c) end.port.out cell.port.into down (are_pair (cluster.down c) end.port.out cell.port.into gives takes));
        };
      }

  -- The cells of clients stand for the other cluster,
  pub clients_renamed : (es : List Entry) (c : ℕ) (cells : List ClientCell) (ends : List ServerEnd) → length cells ≡ length ends → IsNamedBy cluster other c cells ends
      → ClientCellsStand cluster c cells → ServerEndsStand cluster c es ends → ClientCellsStand other c cells
  clients_renamed es c [] ends same by clients server = tt
  clients_renamed es c (cell ∷ cells) [] same by clients server = absurd (omega (arith, same))
  clients_renamed es c (cell ∷ cells) (end ∷ ends) same by clients server = (
    clients.0,
    client_renamed c cell end by.code by.settings (first_up c cell cells (end ∷ ends) by) (first_down c end (cell ∷ cells) ends by) server.0.gives clients.0 clients.1,
    clients_renamed es (suc c) cells ends (omega (arith, same)) (later c cell end cells ends by) clients.2 server.1,
  )

  -- and so do the server's ends.
  pub ends_renamed : (es : List Entry) (c : ℕ) (cells : List ClientCell) (ends : List ServerEnd) → length cells ≡ length ends → IsNamedBy cluster other c cells ends
      → ClientCellsStand cluster c cells → ServerEndsStand cluster c es ends → ServerEndsStand other c es ends
  ends_renamed es c cells [] same by clients server = tt
  ends_renamed es c [] (end ∷ ends) same by clients server = absurd (omega (arith, same))
  ends_renamed es c (cell ∷ cells) (end ∷ ends) same by clients server =
      let gives = subst (λ n. GivesInto (cluster.up n) cell.port.out) clients.0 clients.1.parts.gives in (
        record {
          line = server.0.line;
          gives = named_itself (other.down c) end.port.out (first_down c end (cell ∷ cells) ends by);
          takes = named_pair (other.up c) cell.port.out end.port.into (first_up c cell cells (end ∷ ends) by) (are_pair (cluster.up c) cell.port.out end.port.into gives server.0.takes);
          triggers = subst (λ p. AreTriggersOf c p.losses p.breaks end.triggers) (sym by.settings) server.0.triggers;
        },
        ends_renamed es (suc c) cells ends (omega (arith, same)) (later c cell end cells ends by) clients.2 server.1,
      )

  server_renamed : (cell : ServerCell) → other.code ≡ cluster.code → other.settings ≡ cluster.settings → ServerEndsStand other 1 (newest cell.log) cell.ends.items → ServerCellStands cluster cell → ServerCellStands other cell
  server_renamed cell code settings ends stands =
      let parts = stands.parts in
      record {
        own = stands.own;
        parts = record {
          run = subst (λ k. IsLocalRun k other.settings Server (newest cell.log)) (sym code) (subst (λ p. IsLocalRun cluster.code p Server (newest cell.log)) (sym settings) parts.run);
          clocks = parts.clocks;
          connections = parts.connections;
          with_clients = subst (λ p. AllByRecursion (λ e. IsWithClient p e.input) (newest cell.log)) (sym settings) parts.with_clients;
          core = subst (λ k. LogIsInOrder k other.settings Server (newest cell.log) → ServerStands other.settings cell.core (newest cell.log) × LacksNothing other.settings cell.core (newest cell.log)) (sym code)
              (subst (λ p. LogIsInOrder cluster.code p Server (newest cell.log) → ServerStands p cell.core (newest cell.log) × LacksNothing p cell.core (newest cell.log)) (sym settings) parts.core);
          ends = ends;
          all = subst (λ p. length cell.ends.items ≡ p.clients) (sym settings) parts.all;
          shape = subst (λ k. other.settings.shape ≡ k.shape) (sym code) (subst (λ p. p.shape ≡ cluster.code.shape) (sym settings) parts.shape);
        };
      }

-- The cells stand for the cluster that they go by themselves.
pub host_stands : (program : Program) (cluster : Cluster) (cells : Cells) → cluster.code ≡ program.code → cluster.settings ≡ settings_of program → CellsStand cluster cells → HostStands program cells
host_stands program cluster cells code settings stand =
    let own = cluster_of program cells in
    let es = newest cells.server.log in
    let parts = stand.server.parts in
    let same : length cells.clients.items ≡ length cells.server.ends.items = stand.all ∙ sym parts.all in
    let by : IsNamedBy cluster own 1 cells.clients.items cells.server.ends.items = record {
      code = sym code;
      settings = sym settings;
      up = λ k. ap (λ n. option_map (λ cell. cell.port.out) (slice_get cells.clients.items n)) (one_less k);
      down = λ k. ap (λ n. option_map (λ end. end.port.out) (slice_get cells.server.ends.items n)) (one_less k);
    } in
    record {
      clients = clients_renamed cluster own es 1 cells.clients.items cells.server.ends.items same by stand.clients parts.ends;
      server = server_renamed cluster own cells.server (sym code) (sym settings) (ends_renamed cluster own es 1 cells.clients.items cells.server.ends.items same by stand.clients parts.ends) stand.server;
      all = subst (λ p. length cells.clients.items ≡ p.clients) settings stand.all;
    }

-- What the server's cell stands for, by its log.
use Rattle.std.specs.List.{AllByRecursion, list_any}
use Rattle.std.specs.Prelude.{ℕ, suc, ◌<◌, ◌≤◌, ◌≡◌, ◌⊎◌, ◌^◌, true, false, eqb, is_some, List, [], ◌∷◌, length}
use Rattle.dso_base.specs.declared.journal.Entry.{Entry}
use Rattle.dso_base.specs.declared.journal.Input.{Input}
use Rattle.dso_base.specs.declared.journal.Input.TheVariants.{TookUp, Lose, Break, Rejoin}
use Rattle.dso_base.specs.declared.journal.Node.TheVariants.{Server}
use Rattle.dso_base.specs.declared.journal.Trigger.{Trigger}
use Rattle.dso_base.specs.declared.message.Up.{Up}
use Rattle.dso_law.specs.ServerReadings.{is_lost}
use Rattle.dso_law.specs.Settings.{Settings, clients_of}
use Rattle.dso_machine.specs.declared.code.Code.{Code}
use Rattle.dso_session.specs.declared.frame.Frame.{Frame}
use Rattle.dso_session.specs.declared.session.Role.TheVariants as role
use Rattle.dso_session.specs.Ends.{sent_count}
use Rattle.dso_log.specs.Logs.{last_clock}
use Rattle.dso_wire.specs.Spelling.{IsFrame, IsUp, up_frame_cells}
use Rattle.dso_port.specs.Frames.{TookOne}
use Rattle.dso_port.specs.Ports.{HasNoMore, taken}
use Rattle.rtrb.specs.Ring.{known_items}
use Rattle.dso_line.specs.Letters.{KeepsClock, KeepsConnections, newest}
use Rattle.dso_line.specs.Lines.{ServerLineStands}
use Rattle.dso_server.specs.declared.server.Server as core
use Rattle.dso_server.specs.Answering.{given_by}
use Rattle.dso_server.specs.Lacking.{LacksNothing}
use Rattle.dso_server.specs.ServerStands.{ServerStands}
use Rattle.dso_server.specs.Triggers.{AreTriggersOf, break_due_by, loss_due_by}
use Rattle.dso_cell.specs.declared.server_cell.ServerCell.{ServerCell}
use Rattle.dso_cell.specs.declared.server_end.ServerEnd.{ServerEnd}
use Rattle.dso_cell.specs.Clusters.{Cluster, GivesInto, TakesFrom}
use Rattle.dso_cell.specs.Logs.{IsLocalRun, LogIsInOrder}

-- The server's end of client c's connection stands for the server's entries, its ends of rings are those of the rings
-- that are named, and its triggers are those that are set of the client.
pub record ServerEndStands (cluster : Cluster) (c : ℕ) (es : List Entry) (end : ServerEnd) : Type 0 where
  pub line : ServerLineStands c es end.port
  pub gives : GivesInto (cluster.down c) end.port.out
  pub takes : TakesFrom (cluster.up c) end.port.into
  pub triggers : AreTriggersOf c cluster.settings.losses cluster.settings.breaks end.triggers

-- so do these, of which the first is that of this client
abbrev pub ServerEndsStand : Cluster → ℕ → List Entry → List ServerEnd → Type 0
ServerEndsStand cluster c es [] = Unit {0}
ServerEndsStand cluster c es (end ∷ ends) = ServerEndStands cluster c es end
    × ServerEndsStand cluster (suc c) es ends

-- whatever the server does with a client, that is one of the cluster's
abbrev pub IsWithClient : Settings → Input → Type 0
IsWithClient p (TookUp c m) = list_any (eqb c) (clients_of p) ≡ true
IsWithClient p (Lose c) = list_any (eqb c) (clients_of p) ≡ true
IsWithClient p (Break c) = list_any (eqb c) (clients_of p) ≡ true
IsWithClient p (Rejoin c) = list_any (eqb c) (clients_of p) ≡ true
IsWithClient p input = Unit {0}

-- The core and the ends of all connections stand for the server's entries: these are a local run with its clocks, keep
-- to the connections, and are with clients of the cluster; the core stands for them as long as they are in order, and
-- the ends in any case.
pub record ServerPartsStand (cluster : Cluster) (es : List Entry) (kept : core.Server) (all_ends : List ServerEnd)
    : Type 0 where
  pub run : IsLocalRun cluster.code cluster.settings Server es
  pub clocks : KeepsClock es
  pub connections : KeepsConnections es
  pub with_clients : AllByRecursion (λ e. IsWithClient cluster.settings e.input) es
  pub core : LogIsInOrder cluster.code cluster.settings Server es
      → ServerStands cluster.settings kept es × LacksNothing cluster.settings kept es
  pub ends : ServerEndsStand cluster 1 es all_ends
  pub all : length all_ends ≡ cluster.settings.clients
  pub shape : cluster.settings.shape ≡ cluster.code.shape

-- The server's cell stands for its log.
pub record ServerCellStands (cluster : Cluster) (cell : ServerCell) : Type 0 where
  pub own : cell.log.node ≡ Server
  pub parts : ServerPartsStand cluster (newest cell.log) cell.core cell.ends.items

-- Whatever cluster of this code the cell stood in, it stands in it.
pub record ServerGoesOn (code : Code) (old new : ServerCell) : Type 0 where
  pub stands : (cluster : Cluster) → cluster.code ≡ code → ServerCellStands cluster old → ServerCellStands cluster new

-- What the server's end of a connection keeps, whatever the log of so many entries is: it is the server's, and its
-- connection broke no more often.
pub record ServerEndBounds (entries : ℕ) (end : ServerEnd) : Type 0 where
  pub own : end.port.session.role ≡ role.Server
  pub broke : end.port.session.epoch ≤ entries

-- What the server's cell keeps whatever its log is: it gave no more batches of ids than its log has entries, and no
-- connection broke more often; of the entries there are no more than the log's last clock, and that isn't past the
-- limit.
pub record ServerBounds (cell : ServerCell) : Type 0 where
  pub few : length cell.log.entries ≤ last_clock cell.log
  pub within : last_clock cell.log ≤ 2 ^ 28
  pub given : given_by cell.core ≤ length cell.log.entries
  pub ends : AllByRecursion (ServerEndBounds (length cell.log.entries)) cell.ends.items
  pub clients : length cell.ends.items < 2 ^ 8

-- the end took a message at the limit, or sent as much as an end sends
abbrev pub IsAtLimitUp : ServerEnd → Type 0
IsAtLimitUp end = (is_some end.port.late ≡ true) ⊎ (2 ^ 62 ≤ sent_count end.port.session)

-- some end did
abbrev pub IsAnyAtLimit : List ServerEnd → Type 0
IsAnyAtLimit [] = ⊥
IsAnyAtLimit (end ∷ ends) = IsAtLimitUp end ⊎ IsAnyAtLimit ends

-- At its limit: the clock of its log is, or one of its ends.
abbrev pub IsServerAtLimit : ServerCell → Type 0
IsServerAtLimit cell = (2 ^ 28 ≤ last_clock cell.log) ⊎ IsAnyAtLimit cell.ends.items

-- The end knows of no frame in its ring, or took one, which made no entry.
abbrev pub LooksInVainUp : ServerEnd → ServerEnd → Type 0
LooksInVainUp old new = (known_items new.port.into ≡ [])
    ⊎ ((frame : Frame Up)
    × TookOne up_frame_cells (IsFrame IsUp) (taken old.port.into) (taken new.port.into) frame)

-- No trigger of client c is due, by who was lost of those entries for which the core stands: neither a loss of it nor
-- a break of its connection.
abbrev pub HasNoneDue : core.Server → ℕ → ServerEnd → Type 0
HasNoneDue kept c end = (p : Settings) (es : List Entry) → ServerStands p kept es
    → (losses breaks : List Trigger) → AreTriggersOf c losses breaks end.triggers
    → (loss_due_by c end.port.session.accepted (is_lost c es) losses ≡ false)
    × (break_due_by c end.port.session.accepted (is_lost c es) false end.port.session.epoch breaks ≡ false)

-- Nothing is to be done for client c: no frame is known to have come from it, no trigger of it is due, and no frame
-- waits for a place that is known to be free.
pub record IsServed (kept : core.Server) (c : ℕ) (old new : ServerEnd) : Type 0 where
  pub takes : LooksInVainUp old new
  pub triggers : HasNoneDue kept c new
  pub gives : HasNoMore new.port.session new.port.out

-- So it is for each client, the first of these being client c.
abbrev pub AreServed : core.Server → ℕ → List ServerEnd → List ServerEnd → Type 0
AreServed kept c [] [] = Unit {0}
AreServed kept c (old ∷ olds) (new ∷ news) = IsServed kept c old new × AreServed kept (suc c) olds news
AreServed kept c olds news = ⊥

-- What a client's cell stands for, by its log.
use Rattle.std.specs.Prelude.{ℕ, ◌+◌, ◌≤◌, ◌≡◌, ◌⊎◌, ◌^◌, Bool, true, false, is_some, List, [], ◌∷◌, ◌++◌, length}
use Rattle.dso_base.specs.declared.journal.Entry.{Entry}
use Rattle.dso_base.specs.declared.journal.Node.TheVariants.{Client}
use Rattle.dso_base.specs.declared.message.Down.{Down}
use Rattle.dso_base.specs.declared.message.Up.{Up}
use Rattle.dso_law.specs.Channels.{count_inputs, rejoins}
use Rattle.dso_machine.specs.declared.code.Code.{Code}
use Rattle.dso_session.specs.declared.frame.Frame.{Frame}
use Rattle.dso_session.specs.Ends.{sent_count}
use Rattle.dso_log.specs.Logs.{last_clock}
use Rattle.dso_wire.specs.Spelling.{IsDown, IsFrame, down_frame_cells}
use Rattle.dso_port.specs.Frames.{TookOne}
use Rattle.dso_port.specs.Ports.{HasNoMore, PortState, taken}
use Rattle.rtrb.specs.Ring.{known_items}
use Rattle.dso_line.specs.Letters.{KeepsClock, newest}
use Rattle.dso_line.specs.Lines.{ClientLineStands}
use Rattle.dso_client.specs.declared.acted.Acted.{Acted}
use Rattle.dso_client.specs.declared.acted.Acted.TheVariants as acted
use Rattle.dso_client.specs.declared.client_state.ClientState.{ClientState}
use Rattle.dso_client.specs.ThreadActs.{Acts, HoldsAtMost}
use Rattle.dso_client.specs.ClientStands.{ClientStands}
use Rattle.dso_client.specs.ClientViews.{is_unacknowledged, records_sent}
use Rattle.dso_client.specs.CodeRuns.{RunsCode}
use Rattle.dso_client.specs.ObjectFlushes.{NoneDue}
use Rattle.dso_cell.specs.declared.client_cell.ClientCell.{ClientCell}
use Rattle.dso_cell.specs.Clusters.{Cluster, GivesInto, TakesFrom}
use Rattle.dso_cell.specs.Logs.{IsLocalRun, LogIsInOrder}

-- Client c's core, the number of its rejoins and its end of its connection stand for its entries: these are a local
-- run with its clocks; the core stands for them as long as they are in order, and the end in any case; and its ends
-- of rings are those of the rings that are named.
pub record ClientPartsStand (cluster : Cluster) (c : ℕ) (es : List Entry) (kept : ClientState) (count : ℕ)
    (port : PortState Up Down) : Type 0 where
  pub run : IsLocalRun cluster.code cluster.settings (Client c) es
  pub clocks : KeepsClock es
  pub core : LogIsInOrder cluster.code cluster.settings (Client c) es
      → ClientStands cluster.code cluster.settings c kept es
  pub rejoined : count ≡ count_inputs (rejoins c) es
  pub line : ClientLineStands c es port
  pub gives : GivesInto (cluster.up c) port.out
  pub takes : TakesFrom (cluster.down c) port.into

-- The cell of a client stands for its log.
pub record ClientCellStands (cluster : Cluster) (cell : ClientCell) : Type 0 where
  pub own : cell.log.node ≡ Client cell.number
  pub parts : ClientPartsStand cluster cell.number (newest cell.log) cell.core cell.rejoins cell.port

-- Whatever cluster of this code the cell stood in, it stands in it.
pub record GoesOn (code : Code) (old new : ClientCell) : Type 0 where
  pub stands : (cluster : Cluster) → cluster.code ≡ code → ClientCellStands cluster old → ClientCellStands cluster new

-- What a cell keeps whatever its log is: its threads run the code; it sent no more records, holds no lock and
-- rejoined no more often than its log has entries; of these there are no more than its last clock, and that isn't past
-- the limit.
pub record ClientBounds (code : Code) (cell : ClientCell) : Type 0 where
  pub few : length cell.log.entries ≤ last_clock cell.log
  pub within : last_clock cell.log ≤ 2 ^ 28
  pub runs : RunsCode code cell.core
  pub records : cell.core.sequences.records ≤ length cell.log.entries
  pub holds : HoldsAtMost (length cell.log.entries) cell.core
  pub rejoined : cell.rejoins ≤ length cell.log.entries

-- At its limit: the clock of its log is, a message at the limit was taken, or its end sent as much as an end sends.
abbrev pub IsAtLimit : ClientCell → Type 0
IsAtLimit cell = (2 ^ 28 ≤ last_clock cell.log) ⊎ ((is_some cell.port.late ≡ true)
    ⊎ (2 ^ 62 ≤ sent_count cell.port.session))

-- The client is ahead of the server: it sent 16 records or more behind one that isn't acknowledged yet.
pub record IsAhead (core : ClientState) : Type 0 where
  pub first : ℕ
  pub waits : is_unacknowledged core first ≡ true
  pub far : first + 16 ≤ records_sent core

-- one entry more where one was added, and else the same entries
abbrev pub IsOneMore : Bool → List Entry → List Entry → Type 0
IsOneMore true old new = (e : Entry) × (new ≡ old ++ e ∷ [])
IsOneMore false old new = new ≡ old

-- the thread neither acted nor asked
abbrev pub IsIdle : Acted → Type 0
IsIdle (acted.Blocked told) = Unit {0}
IsIdle acted.Over = Unit {0}
IsIdle other = ⊥

-- The thread can't act: the client answers it that it is blocked or over, and stays as it is.
abbrev pub CannotAct : Code → ℕ → ClientState → Type 0
CannotAct code index core = (told : Acted) × IsIdle told × Acts code index core core told []

-- The thread can act: the client answers it with an event, or that it asked for what the act lacks.
abbrev pub CanAct : Code → ℕ → ClientState → ClientState → Type 0
CanAct code index old new = (told : Acted) × (messages : List Up) × (IsIdle told → ⊥)
    × Acts code index old new told messages

-- The end knows of no frame in its ring, or took one, which made no entry.
abbrev pub LooksInVain : ClientCell → ClientCell → Type 0
LooksInVain old new = (known_items new.port.into ≡ [])
    ⊎ ((frame : Frame Down)
    × TookOne down_frame_cells (IsFrame IsDown) (taken old.port.into) (taken new.port.into) frame)

-- Nothing is to be done: no frame is known to have come, no object is to be flushed, and no frame waits for a place
-- that is known to be free.
pub record HasNothingToDo (old new : ClientCell) : Type 0 where
  pub takes : LooksInVain old new
  pub flushes : NoneDue new.core
  pub gives : HasNoMore new.port.session new.port.out

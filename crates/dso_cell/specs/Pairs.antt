-- What a client's cell and the server's end of its connection tell of the client: which of its slots are open, and
-- whether it is busy. It goes by the core, by how much was sent and accepted, and by how often the connection broke and
-- was taken up; nothing is said of rings.
use Rattle.std.specs.Prelude.{ℕ, ◌-◌, ◌≤◌, ◌≡◌, Bool, cond, eqb, ltb, not, ◌&&◌, ◌||◌, Some, List, length, slice_get}
use Rattle.dso_base.specs.declared.journal.Entry.{Entry}
use Rattle.dso_client.specs.ObjectFlushes.{TellsFlush}
use Rattle.dso_client.specs.Threads.{IsEnabled, TellsAlive}
use Rattle.dso_law.specs.ServerReadings.{is_lost}
use Rattle.dso_law.specs.Settings.{Settings}
use Rattle.dso_legal.specs.Slots.{Slot, Acts, TakesDown, Flushes, TakesUp, Loses, Breaks}
use Rattle.dso_server.specs.ServerStands.{ServerStands}
use Rattle.dso_server.specs.Triggers.{AreTriggersOf, break_due_by, loss_due_by}
use Rattle.dso_session.specs.Ends.{sent_count}
use Rattle.dso_cell.specs.declared.client_cell.ClientCell.{ClientCell}
use Rattle.dso_cell.specs.declared.server_cell.ServerCell.{ServerCell}
use Rattle.dso_cell.specs.declared.server_end.ServerEnd.{ServerEnd}

-- A client by its number: its cell, the server's end of its connection, and whether it was lost.
pub record Pair : Type 0 where
  pub client : ℕ
  pub cell : ClientCell
  pub end : ServerEnd
  pub is_lost : Bool

-- how many of the client's messages the server took, and how many of the server's the client took
abbrev pub up_taken : Pair → ℕ
up_taken pair = pair.end.port.session.accepted

abbrev pub down_taken : Pair → ℕ
down_taken pair = pair.cell.port.session.accepted

-- how many messages each sent
abbrev pub up_sent : Pair → ℕ
up_sent pair = sent_count pair.cell.port.session

abbrev pub down_sent : Pair → ℕ
down_sent pair = sent_count pair.end.port.session

-- the connection broke more often than the client took it up again
abbrev pub is_behind : Pair → Bool
is_behind pair = ltb pair.cell.rejoins pair.end.port.session.epoch

-- The client can take: on a connection that is ready, where not all was taken that was sent to it; on one that isn't,
-- where it hasn't taken it up as often as it broke.
abbrev pub can_hear : Pair → Bool
can_hear pair = cond pair.end.port.session.is_ready (ltb (down_taken pair) (down_sent pair)) (is_behind pair)

-- The server can take of the client: on a connection that is ready, where not all was taken that was sent to it; on one
-- that isn't, where the client has taken it up.
abbrev pub can_be_heard : Pair → Bool
can_be_heard pair = cond pair.end.port.session.is_ready (ltb (up_taken pair) (up_sent pair)) (not (is_behind pair))

-- all was taken that was sent, both ways
abbrev pub is_still : Pair → Bool
is_still pair = eqb (up_sent pair) (up_taken pair) && eqb (down_sent pair) (down_taken pair)

module _ (p : Settings) where
  -- the triggers at the server's end are those that are set of the client
  abbrev pub HasTriggers : Pair → Type 0
  HasTriggers pair = AreTriggersOf pair.client p.losses p.breaks pair.end.triggers

  -- a loss of the client is due
  abbrev pub is_loss_due_at : Pair → Bool
  is_loss_due_at pair = loss_due_by pair.client (up_taken pair) pair.is_lost p.losses

  -- a break of its connection is due
  abbrev pub is_break_due_at : Pair → Bool
  is_break_due_at pair = break_due_by pair.client (up_taken pair) pair.is_lost (is_loss_due_at pair)
      pair.end.port.session.epoch p.breaks

  -- one of the two is due
  abbrev pub is_trigger_due : Pair → Bool
  is_trigger_due pair = is_loss_due_at pair || is_break_due_at pair

  -- The answer tells whether the slot of the client is open: of an act and of a flush as the client's core tells.
  abbrev pub TellsSlot : Pair → Slot → Bool → Type 0
  TellsSlot pair (Acts t) answer = IsEnabled pair.cell.core t.index answer
  TellsSlot pair (TakesDown c) answer = answer ≡ can_hear pair
  TellsSlot pair (Flushes c) answer = TellsFlush pair.cell.core answer
  TellsSlot pair (TakesUp c) answer = answer ≡ (not (is_trigger_due pair) && can_be_heard pair)
  TellsSlot pair (Loses c) answer = answer ≡ is_loss_due_at pair
  TellsSlot pair (Breaks c) answer = answer ≡ is_break_due_at pair

  -- The answer tells whether the client is busy: a trigger of it is due; or it isn't lost, and not all was taken that
  -- was sent, or one of its threads goes on.
  pub record TellsBusyAt (pair : Pair) (answer : Bool) : Type 0 where
    pub alive : ℕ
    pub threads : TellsAlive pair.cell.core alive
    pub is : answer ≡ (is_trigger_due pair || (not pair.is_lost && (not (is_still pair) || ltb 0 alive)))

-- The pair is that of client c with this cell, at the server: its end of the connection, and what the core tells of a
-- loss.
pub record IsPairAt (server : ServerCell) (c : ℕ) (own : ClientCell) (pair : Pair) : Type 0 where
  pub its : pair.client ≡ c
  pub cell : pair.cell ≡ own
  pub end : slice_get server.ends.items (c - 1) ≡ Some pair.end
  pub lost : (p : Settings) (es : List Entry) → ServerStands p server.core es → pair.is_lost ≡ is_lost c es

-- there is no end of client c
abbrev pub HasNoEnd : ServerCell → ℕ → Type 0
HasNoEnd server c = length server.ends.items ≤ c - 1

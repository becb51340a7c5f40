-- What the parts of the server's turn make of its cell.
use Rattle.std.specs.List.{AllByRecursion}
use Rattle.std.specs.Prelude.{ℕ, suc, ◌<◌, ◌≤◌, ◌^◌, ◌≡◌, ◌⊎◌, Bool, true, Option, Some, None, List, [], ◌∷◌, length}
use Rattle.dso_base.specs.declared.journal.Entry.{Entry}
use Rattle.dso_base.specs.declared.journal.Input.{Input}
use Rattle.dso_base.specs.declared.journal.Input.TheVariants.{Break, Lose, TookUp}
use Rattle.dso_base.specs.declared.journal.Trigger.{Trigger}
use Rattle.dso_base.specs.declared.message.Down.{Down}
use Rattle.dso_base.specs.declared.message.Up.{Up}
use Rattle.dso_law.specs.ServerReadings.{is_lost}
use Rattle.dso_law.specs.Settings.{Settings}
use Rattle.dso_locks.specs.Locks.{IsClient}
use Rattle.dso_machine.specs.declared.code.Code.{Code}
use Rattle.dso_session.specs.Ends.{sent_count}
use Rattle.dso_log.specs.Logs.{Log, entry_of, last_clock, with_entry}
use Rattle.dso_server.specs.declared.server.Server as core
use Rattle.dso_server.specs.declared.taken.Taken.{Taken}
use Rattle.dso_server.specs.Answering.{IsLost, IsTaken, given_by}
use Rattle.dso_server.specs.Lacking.{KnowsNamed}
use Rattle.dso_server.specs.Sending.{sent_of}
use Rattle.dso_server.specs.ServerStands.{ServerStands}
use Rattle.dso_server.specs.Triggers.{AreTriggersOf, break_due_by, loss_due_by}
use Rattle.dso_cell.specs.declared.due.Due.{Due}
use Rattle.dso_cell.specs.declared.due.Mishap.{Mishap}
use Rattle.dso_cell.specs.declared.due.Mishap.TheVariants as mishap
use Rattle.dso_cell.specs.declared.made.Made.{Made}
use Rattle.dso_cell.specs.declared.server_cell.ServerCell.{ServerCell}
use Rattle.dso_cell.specs.declared.server_end.ServerEnd.{ServerEnd}
use Rattle.dso_cell.specs.ServerCells.{HasNoneDue, ServerBounds, ServerEndBounds}
use Rattle.dso_cell.specs.ServerEnds.{AreTold, ArePassed, ChangesEnd, HaveRoom, with_break}

-- ---- triggers
-- the trigger is due, where so many messages of client c were taken, by whether it was lost, and where its connection
-- broke so often
abbrev pub IsDueBy : ℕ → ℕ → Bool → ℕ → List Trigger → List Trigger → Mishap → Type 0
IsDueBy c taken lost broke losses breaks mishap.Loss = loss_due_by c taken lost losses ≡ true
IsDueBy c taken lost broke losses breaks mishap.Break =
    break_due_by c taken lost (loss_due_by c taken lost losses) broke breaks ≡ true

-- The trigger of client c is due, by who was lost of those entries for which the core stands.
abbrev pub IsDue : core.Server → ℕ → Mishap → ServerEnd → Type 0
IsDue kept c what end = (p : Settings) (es : List Entry) → ServerStands p kept es
    → (losses breaks : List Trigger) → AreTriggersOf c losses breaks end.triggers
    → IsDueBy c end.port.session.accepted (is_lost c es) end.port.session.epoch losses breaks what

-- what is told of client c's triggers
abbrev pub TellsDue : core.Server → ℕ → Option Mishap → ServerEnd → Type 0
TellsDue kept c None end = HasNoneDue kept c end
TellsDue kept c (Some what) end = IsDue kept c what end

-- none is due of any client, the first of these being client c
abbrev pub HaveNoneDue : core.Server → ℕ → List ServerEnd → Type 0
HaveNoneDue kept c [] = Unit {0}
HaveNoneDue kept c (end ∷ ends) = HasNoneDue kept c end × HaveNoneDue kept (suc c) ends

-- one is due of the client that it names
abbrev pub IsOneDue : core.Server → ℕ → Due → List ServerEnd → Type 0
IsOneDue kept c due [] = ⊥
IsOneDue kept c due (end ∷ ends) = ((due.client ≡ c) × IsDue kept c due.mishap end) ⊎ IsOneDue kept (suc c) due ends

-- what is told of the triggers of all clients
abbrev pub IsFirstDue : core.Server → ℕ → Option Due → List ServerEnd → Type 0
IsFirstDue kept c None ends = HaveNoneDue kept c ends
IsFirstDue kept c (Some due) ends = IsOneDue kept c due ends

-- ---- entries
-- The cell isn't at its limit, and has room for an entry.
pub record ServerMayAdd (cell : ServerCell) : Type 0 where
  pub bounds : ServerBounds cell
  pub room : cell.log.has_room ≡ true
  pub low : last_clock cell.log < 2 ^ 28
  pub few : AllByRecursion (λ end. sent_count end.port.session < 2 ^ 62) cell.ends.items

-- Nor is it once an end has taken a frame or its connection broke: all but the entry was made.
pub record ServerMayLog (cell : ServerCell) : Type 0 where
  pub few : length cell.log.entries ≤ last_clock cell.log
  pub given : given_by cell.core ≤ length cell.log.entries
  pub ends : AllByRecursion (ServerEndBounds (suc (length cell.log.entries))) cell.ends.items
  pub clients : length cell.ends.items < 2 ^ 8
  pub room : cell.log.has_room ≡ true
  pub low : last_clock cell.log < 2 ^ 28
  pub seen : HaveRoom cell.ends.items

-- what the server is to log, which has no event
abbrev pub server_made : ℕ → Input → Made
server_made heard input = record { heard = heard; input = input; event = None }

-- the entry that the server logs, which sends these messages
abbrev pub server_said : Made → List (ℕ × Down) → Log → Entry
server_said made messages log = entry_of made.heard made.input (sent_of messages) made.event log

-- The entry was logged, and the ends sent the messages.
pub record ServerHasSaid (made : Made) (messages : List (ℕ × Down)) (old new : ServerCell) : Type 0 where
  pub log : new.log ≡ with_entry (server_said made messages old.log) old.log
  pub told : AreTold (server_said made messages old.log).clock messages old.ends.items new.ends.items
  pub core : new.core ≡ old.core

-- The core took the message of client c, and the cell logged that.
pub record ServerHasHeard (code : Code) (c : ℕ) (message : Up) (heard : ℕ) (old new : ServerCell) : Type 0 where
  pub told : Taken
  pub messages : List (ℕ × Down)
  pub takes : (p : Settings) (es : List Entry) → p.shape ≡ code.shape → ServerStands p old.core es → IsClient p c
      → KnowsNamed p old.core c message es → IsTaken p c message told messages old.core new.core es
  pub said : ServerHasSaid (server_made heard (TookUp c message)) messages (record old { core = new.core }) new

-- The core lost client c, and the cell logged that.
pub record ServerHasLost (c : ℕ) (old new : ServerCell) : Type 0 where
  pub messages : List (ℕ × Down)
  pub loses : (p : Settings) (es : List Entry) → ServerStands p old.core es
      → IsLost p c messages old.core new.core es
  pub said : ServerHasSaid (server_made 0 (Lose c)) messages (record old { core = new.core }) new

-- The connection of client c broke, and the cell logged that.
pub record ServerHasBroken (c : ℕ) (old new : ServerCell) : Type 0 where
  pub broken : List ServerEnd
  pub breaks : ChangesEnd c with_break old.ends.items broken
  pub log : new.log ≡ with_entry (server_said (server_made 0 (Break c)) [] old.log) old.log
  pub told : AreTold (server_said (server_made 0 (Break c)) [] old.log).clock [] broken new.ends.items
  pub core : new.core ≡ old.core

-- No entry was made: no end knew of a frame that makes one.
pub record LookedInVain (old new : ServerCell) : Type 0 where
  pub ends : ArePassed old.ends.items new.ends.items
  pub core : new.core ≡ old.core
  pub log : new.log ≡ old.log

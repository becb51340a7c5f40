-- Which slots are open in the journal that is gathered of cells, and whether it is finished, by the cells themselves.
use Rattle.std.specs.List.{list_any}
use Rattle.std.specs.Prelude.{ℕ, ◌-◌, ◌≤◌, ◌≡◌, ◌⊎◌, Bool, true, false, eqb, not, ◌||◌, Some}
use Rattle.std.specs.Prelude.{List, [], ◌∷◌, length, reverse, slice_get}
use Rattle.dso_base.specs.declared.journal.Entry.{Entry}
use Rattle.dso_base.specs.declared.lock.ThreadId.{ThreadId}
use Rattle.dso_base.specs.Following.{is_thread}
use Rattle.dso_class.specs.declared.program.Program.{Program}
use Rattle.dso_client.specs.ClientStands.{ClientStands}
use Rattle.dso_law.specs.ClientStep.{may_flush}
use Rattle.dso_law.specs.ServerReadings.{is_lost}
use Rattle.dso_law.specs.Settings.{Settings, clients_of}
use Rattle.dso_legal.specs.Slots.{Slot, Acts, TakesDown, Flushes, TakesUp, Loses, Breaks}
use Rattle.dso_legal.specs.Slots.{is_any, is_finished, is_open, open_slots, slots}
use Rattle.dso_machine.specs.declared.code.Code.{Code}
use Rattle.dso_machine.specs.Next.{next_request}
use Rattle.dso_server.specs.ServerStands.{ServerStands}
use Rattle.dso_world.specs.Busy.{is_busy}
use Rattle.dso_world.specs.ChosenSlot.{is_slot}
use Rattle.dso_world.specs.Touched.{client_of}
use Rattle.dso_world.specs.WorldSteps.{settings_of}
use Rattle.dso_cell.specs.Pairs.{HasNoEnd, HasTriggers, Pair, TellsBusyAt, TellsSlot}
use Rattle.dso_cell.specs.Pairs.{can_be_heard, can_hear, is_trigger_due}
use Rattle.dso_host.specs.declared.cells.Cells.{Cells}
use Rattle.dso_host.specs.Journals.{IsJournalOf}

-- The pair is client c's in the cells: its cell, the server's end of its connection, and what the server's core tells
-- of its loss.
pub record IsPairOf (cells : Cells) (c : ℕ) (pair : Pair) : Type 0 where
  pub from_one : 1 ≤ c
  pub its : pair.client ≡ c
  pub cell : slice_get cells.clients.items (c - 1) ≡ Some pair.cell
  pub end : slice_get cells.server.ends.items (c - 1) ≡ Some pair.end
  pub lost : (p : Settings) (es : List Entry) → ServerStands p cells.server.core es → pair.is_lost ≡ is_lost c es

-- there is no client of this number
abbrev pub HasNoPair : Cells → ℕ → Type 0
HasNoPair cells c = (length cells.clients.items ≤ c - 1) ⊎ HasNoEnd cells.server c

-- Open slots: a slot of the cluster is open in the journal of a host exactly where the
-- test of its client's pair answers true.
abbrev pub OpenByCells : Type 0
OpenByCells = (program : Program) (cells : Cells) (entries : List Entry) → IsJournalOf program cells entries
    → (slot : Slot) → list_any (is_slot slot) (slots (settings_of program)) ≡ true
    → (pair : Pair) → IsPairOf cells (client_of slot) pair
    → (answer : Bool) → TellsSlot (settings_of program) pair slot answer
    → answer ≡ is_open (settings_of program) (next_request program.code) (reverse entries) slot

-- the test of the slot by a pair of its client in the cells answers so
pub record IsTold (program : Program) (cells : Cells) (slot : Slot) (answer : Bool) : Type 0 where
  pub pair : Pair
  pub its : IsPairOf cells (client_of slot) pair
  pub told : TellsSlot (settings_of program) pair slot answer

-- The answer tells whether any slot of the cluster is open: the test of one answers true, or that of each answers
-- false.
abbrev pub TellsAny : Program → Cells → Bool → Type 0
TellsAny program cells true = (slot : Slot) × (list_any (is_slot slot) (slots (settings_of program)) ≡ true)
    × IsTold program cells slot true
TellsAny program cells false = (slot : Slot) → list_any (is_slot slot) (slots (settings_of program)) ≡ true
    → IsTold program cells slot false

-- Any slot: one is open in the journal of a host exactly where the tests of them tell so.
abbrev pub AnyOpenByCells : Type 0
AnyOpenByCells = (program : Program) (cells : Cells) (entries : List Entry)
    → IsJournalOf program cells entries → (answer : Bool) → TellsAny program cells answer
    → answer ≡ is_any (open_slots (settings_of program) (next_request program.code) (reverse entries))

-- a pair of client c in the cells tells so whether it is busy
pub record IsToldBusy (program : Program) (cells : Cells) (c : ℕ) (answer : Bool) : Type 0 where
  pub pair : Pair
  pub its : IsPairOf cells c pair
  pub told : TellsBusyAt (settings_of program) pair answer

-- Finished: the journal is finished exactly where no client is busy, as the pairs of all clients tell.
abbrev pub FinishedByCells : Type 0
FinishedByCells = (program : Program) (cells : Cells) (entries : List Entry)
    → IsJournalOf program cells entries → (busy : ℕ → Bool)
    → ((c : ℕ) → list_any (eqb c) (clients_of (settings_of program)) ≡ true → IsToldBusy program cells c (busy c))
    → is_finished (settings_of program) (reverse entries) ≡ not (list_any busy (clients_of (settings_of program)))

-- the answer tells, of whatever journal the cells are, whether the client is busy
abbrev pub TellsBusyOf : Cells → ℕ → Bool → Type 0
TellsBusyOf cells c answer = (program : Program) (entries : List Entry) → IsJournalOf program cells entries
    → list_any (eqb c) (clients_of (settings_of program)) ≡ true
    → answer ≡ is_busy (settings_of program) c (reverse entries)

-- and whether that is finished
abbrev pub TellsFinished : Program → Cells → Bool → Type 0
TellsFinished program cells answer = (entries : List Entry) → IsJournalOf program cells entries
    → answer ≡ is_finished (settings_of program) (reverse entries)

-- ---- any slot, client by client
-- the slots of a client but for its threads' acts
abbrev pub step_slots : ℕ → List Slot
step_slots c = TakesDown c ∷ Flushes c ∷ TakesUp c ∷ Loses c ∷ Breaks c ∷ []

-- The answer tells whether one of those is open, whatever entries the client's core stands for: a trigger of it is due,
-- the server or the client can take, or the client flushes.
abbrev pub TellsStepAt : Pair → Bool → Type 0
TellsStepAt pair answer = (code : Code) (p : Settings) (c : ℕ) (es : List Entry)
    → ClientStands code p c pair.cell.core es → HasTriggers p pair
    → answer ≡ (is_trigger_due p pair || (can_be_heard pair || (can_hear pair || may_flush p c es)))

-- whether the slot is open in the journal of the program
abbrev pub is_open_in : Program → List Entry → Slot → Bool
is_open_in program entries = is_open (settings_of program) (next_request program.code) (reverse entries)

-- the answer tells, of whatever journal the cells are, whether the act of the thread is open
abbrev pub TellsActOf : Cells → ThreadId → Bool → Type 0
TellsActOf cells t answer = (program : Program) (entries : List Entry) → IsJournalOf program cells entries
    → list_any (is_thread t) program.threads ≡ true → answer ≡ is_open_in program entries (Acts t)

-- whether another slot of the client is
abbrev pub TellsStepOf : Cells → ℕ → Bool → Type 0
TellsStepOf cells c answer = (program : Program) (entries : List Entry) → IsJournalOf program cells entries
    → list_any (eqb c) (clients_of (settings_of program)) ≡ true
    → answer ≡ list_any (is_open_in program entries) (step_slots c)

-- whether the act of some thread is
abbrev pub TellsAnyAct : Program → Cells → Bool → Type 0
TellsAnyAct program cells answer = (entries : List Entry) → IsJournalOf program cells entries
    → answer ≡ list_any (λ t. is_open_in program entries (Acts t)) program.threads

-- whether another slot of some client is
abbrev pub TellsAnyStep : Program → Cells → Bool → Type 0
TellsAnyStep program cells answer = (entries : List Entry) → IsJournalOf program cells entries
    → answer ≡ list_any (λ c. list_any (is_open_in program entries) (step_slots c)) (clients_of (settings_of program))

-- and whether any slot is open
abbrev pub TellsOpen : Program → Cells → Bool → Type 0
TellsOpen program cells answer = (entries : List Entry) → IsJournalOf program cells entries
    → answer ≡ is_any (open_slots (settings_of program) (next_request program.code) (reverse entries))

-- What the runner keeps: its events are a legal history of the program, and its heap is the last state of that history.
use Rattle.std.specs.Prelude.{◌≡◌, Some, List, [], ◌∷◌}
use Rattle.dso_base.specs.declared.lock.ThreadId.{ThreadId}
use Rattle.dso_base.specs.declared.request.Event.{Event}
use Rattle.dso_base.specs.declared.request.Event.TheVariants.{Act, Lost}
use Rattle.dso_base.specs.Following.{FollowsFrom, FollowsProgram, IsListed, Listed}
use Rattle.dso_class.specs.declared.program.Program.{Program}
use Rattle.dso_machine.specs.declared.code.Code.{Code}
use Rattle.dso_machine.specs.declared.thread.Thread.{Thread}
use Rattle.dso_machine.specs.Next.{next_request}
use Rattle.dso_machine.specs.Standing.{ThreadStands}
use Rattle.dso_plain.specs.History.{IsLegal, events_of, last_state}
use Rattle.dso_plain.specs.HeapTables.{state_of}
use Rattle.report_cases.specs.declared.legal_run.LegalRun.{LegalRun}

-- the events are a legal history of the program, and the heap is its last state
pub record IsLegalRun (p : Program) (run : LegalRun) : Type 0 where
  pub legal : IsLegal (next_request p.code) (Listed (next_request p.code)) p.code.shape run.events.items
  pub is_last : state_of run.plain ≡ last_state p.code.shape run.events.items

-- the event is the loss of a client, or the next request of its thread after its events so far, with a reply that is
-- listed for it
abbrev pub IsNextEvent : Code → List Event → Event → Type 0
IsNextEvent code events (Act thread request reply woken) =
    (next_request code thread (events_of thread events) ≡ Some request) × IsListed request reply
IsNextEvent code events (Lost client) = Unit {0}

-- the thread's events among these follow the code
abbrev pub FollowsCode : Code → ThreadId → List Event → Type 0
FollowsCode code t events = FollowsProgram (next_request code) (Listed (next_request code)) t (events_of t events)

-- The thread stands for some events, after which the event is its next one, if it is the thread's at all.
pub record CanFollow (code : Code) (t : ThreadId) (run : Thread) (event : Event) : Type 0 where
  pub past : List Event
  pub stands : ThreadStands code t run past
  pub next : FollowsFrom (next_request code) (Listed (next_request code)) t past (events_of t (event ∷ []))

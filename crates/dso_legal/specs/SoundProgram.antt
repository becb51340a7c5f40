-- What the law asks of a program.
use Rattle.std.specs.List.{list_any}
use Rattle.std.specs.Prelude.{ℕ, ◌<◌, ◌≡◌, ◌≢◌, ◌⊎◌, Bool, true, false, eqb, ◌||◌, Option, Some, None, List, [], ◌∷◌}
use Rattle.dso_base.specs.declared.lock.Level.TheVariants.{Write}
use Rattle.dso_base.specs.declared.lock.LockName.{LockName}
use Rattle.dso_base.specs.declared.lock.LockName.TheVariants.{Mon, Name}
use Rattle.dso_base.specs.declared.lock.ThreadId.{ThreadId}
use Rattle.dso_base.specs.declared.record.Ending.{Ending}
use Rattle.dso_base.specs.declared.record.Ending.TheVariants as ending
use Rattle.dso_base.specs.declared.request.Event.{Event}
use Rattle.dso_base.specs.declared.request.Event.TheVariants.{Act, Lost}
use Rattle.dso_base.specs.declared.request.Reply.{Reply}
use Rattle.dso_base.specs.declared.request.Reply.TheVariants.{Done, Made, Val}
use Rattle.dso_base.specs.declared.request.Request.{Request}
use Rattle.dso_base.specs.declared.request.Request.TheVariants.{New, Look, Get, Put, Enter, Exit, Wait, Tick, Timeout}
use Rattle.dso_base.specs.declared.request.Request.TheVariants.{Resume, Notify, NotifyAll, Print, End, Pause, Settle}
use Rattle.dso_base.specs.declared.shape.Shape.{Shape}
use Rattle.dso_base.specs.declared.value.Value.{Value}
use Rattle.dso_base.specs.declared.value.Value.TheVariants as value
use Rattle.dso_base.specs.Following.{Listed, FollowsProgram}
use Rattle.dso_plain.specs.Possible.{CanBeMade}
use Rattle.dso_plain.specs.SameActs.{AreSameActs}
use Rattle.dso_plain.specs.Touches.{AreActsOf}
use Rattle.dso_law.specs.FitsDown.{IsWaitingOn}
use Rattle.dso_law.specs.RequestNeeds.{hold_level}
use Rattle.dso_law.specs.Threads.{Locks, or_else, locks_after, hold_in, ending_of, ends_thread}
use Rattle.dso_legal.specs.PendingBlocks.{no_locks, locks_through}

-- the reply tells the thread of the object: it made it, or read a reference to it
abbrev pub tells : ℕ → Reply → Bool
tells o (Made made) = eqb made o
tells o (Val (value.Ref named)) = eqb named o
tells o reply = false

-- the event is an act whose reply tells the thread of the object
abbrev pub event_tells : ℕ → Event → Bool
event_tells o (Act thread request reply woken) = tells o reply
event_tells o (Lost client) = false

-- Told: it is object 0, or one of the thread's events told it of the object.
abbrev pub was_told : ℕ → List Event → Bool
was_told o events = eqb o 0 || list_any (event_tells o) events

-- the object that the value names, if it names one, is not object 0 and was told
abbrev pub IsToldValue : Value → List Event → Type 0
IsToldValue (value.Ref o) events = (o ≢ 0) × (was_told o events ≡ true)
IsToldValue v events = Unit {0}

-- the object whose monitor it is, which is not object 0, was told
abbrev pub IsToldLock : LockName → List Event → Type 0
IsToldLock (Mon o) events = (o ≢ 0) × (was_told o events ≡ true)
IsToldLock (Name n) events = Unit {0}

-- A thread names only objects that it was told: it looks at, reads, writes, stores a reference to and locks no other.
abbrev pub NamesOnlyTold : Request → List Event → Type 0
NamesOnlyTold (New class n) events = Unit {0}
NamesOnlyTold (Look o) events = was_told o events ≡ true
NamesOnlyTold (Get o f) events = was_told o events ≡ true
NamesOnlyTold (Put o f v) events = (was_told o events ≡ true) × IsToldValue v events
NamesOnlyTold (Enter l level) events = IsToldLock l events
NamesOnlyTold (Exit l) events = Unit {0}
NamesOnlyTold (Wait l) events = Unit {0}
NamesOnlyTold (Tick l) events = Unit {0}
NamesOnlyTold (Timeout l) events = Unit {0}
NamesOnlyTold (Resume l) events = Unit {0}
NamesOnlyTold (Notify l) events = Unit {0}
NamesOnlyTold (NotifyAll l) events = Unit {0}
NamesOnlyTold (Print v) events = Unit {0}
NamesOnlyTold (End fault) events = Unit {0}
NamesOnlyTold Pause events = Unit {0}
NamesOnlyTold Settle events = Unit {0}

-- It leaves only locks that it holds, ticks, times out and resumes only where it waits, and ends only where it holds
-- none.
abbrev pub KeepsLocks : Request → Locks → Type 0
KeepsLocks (New class n) locks = Unit {0}
KeepsLocks (Look o) locks = Unit {0}
KeepsLocks (Get o f) locks = Unit {0}
KeepsLocks (Put o f v) locks = Unit {0}
KeepsLocks (Enter l level) locks = Unit {0}
KeepsLocks (Exit l) locks = hold_in l locks.holds ≢ None
KeepsLocks (Wait l) locks = Unit {0}
KeepsLocks (Tick l) locks = IsWaitingOn l locks.waiting
KeepsLocks (Timeout l) locks = IsWaitingOn l locks.waiting
KeepsLocks (Resume l) locks = IsWaitingOn l locks.waiting
KeepsLocks (Notify l) locks = Unit {0}
KeepsLocks (NotifyAll l) locks = Unit {0}
KeepsLocks (Print v) locks = Unit {0}
KeepsLocks (End fault) locks = locks.holds ≡ []
KeepsLocks Pause locks = Unit {0}
KeepsLocks Settle locks = Unit {0}

-- It makes only objects that its classes have.
abbrev pub MakesOnly : Shape → Request → Type 0
MakesOnly shape (New class n) = CanBeMade shape class n
MakesOnly shape (Look o) = Unit {0}
MakesOnly shape (Get o f) = Unit {0}
MakesOnly shape (Put o f v) = Unit {0}
MakesOnly shape (Enter l level) = Unit {0}
MakesOnly shape (Exit l) = Unit {0}
MakesOnly shape (Wait l) = Unit {0}
MakesOnly shape (Tick l) = Unit {0}
MakesOnly shape (Timeout l) = Unit {0}
MakesOnly shape (Resume l) = Unit {0}
MakesOnly shape (Notify l) = Unit {0}
MakesOnly shape (NotifyAll l) = Unit {0}
MakesOnly shape (Print v) = Unit {0}
MakesOnly shape (End fault) = Unit {0}
MakesOnly shape Pause = Unit {0}
MakesOnly shape Settle = Unit {0}

-- while it waits, it does nothing but tick, time out and resume
abbrev pub IsOfWaiter : Request → Type 0
IsOfWaiter (New class n) = ⊥
IsOfWaiter (Look o) = ⊥
IsOfWaiter (Get o f) = ⊥
IsOfWaiter (Put o f v) = ⊥
IsOfWaiter (Enter l level) = ⊥
IsOfWaiter (Exit l) = ⊥
IsOfWaiter (Wait l) = ⊥
IsOfWaiter (Tick l) = Unit {0}
IsOfWaiter (Timeout l) = Unit {0}
IsOfWaiter (Resume l) = Unit {0}
IsOfWaiter (Notify l) = ⊥
IsOfWaiter (NotifyAll l) = ⊥
IsOfWaiter (Print v) = ⊥
IsOfWaiter (End fault) = ⊥
IsOfWaiter Pause = ⊥
IsOfWaiter Settle = ⊥

-- the latest ending of a thread after these events of its own, by its locks and its latest ending before them
abbrev pub latest_ending : ThreadId → List Event → Locks → Option Ending → Option Ending
latest_ending t [] locks latest = latest
latest_ending t (event ∷ events) locks latest = latest_ending t events (locks_after t event locks)
    (or_else (ending_of event locks) latest)

-- It times out once: only where its latest ending is the wait on that lock.
abbrev pub TimesOutOnce : Request → Option Ending → Type 0
TimesOutOnce (New class n) latest = Unit {0}
TimesOutOnce (Look o) latest = Unit {0}
TimesOutOnce (Get o f) latest = Unit {0}
TimesOutOnce (Put o f v) latest = Unit {0}
TimesOutOnce (Enter l level) latest = Unit {0}
TimesOutOnce (Exit l) latest = Unit {0}
TimesOutOnce (Wait l) latest = Unit {0}
TimesOutOnce (Tick l) latest = Unit {0}
TimesOutOnce (Timeout l) latest = latest ≡ Some (ending.Wait l)
TimesOutOnce (Resume l) latest = Unit {0}
TimesOutOnce (Notify l) latest = Unit {0}
TimesOutOnce (NotifyAll l) latest = Unit {0}
TimesOutOnce (Print v) latest = Unit {0}
TimesOutOnce (End fault) latest = Unit {0}
TimesOutOnce Pause latest = Unit {0}
TimesOutOnce Settle latest = Unit {0}

-- The request keeps to all of this after the thread's events, none of which ended it.
pub record KeepsTo (shape : Shape) (t : ThreadId) (events : List Event) (request : Request) : Type 0 where
  pub goes : list_any ends_thread events ≡ false
  pub names : NamesOnlyTold request events
  pub locks : KeepsLocks request (locks_through t events no_locks)
  pub makes : MakesOnly shape request
  pub waits : (locks_through t events no_locks).waiting ≢ None → IsOfWaiter request
  pub times_out_once : TimesOutOnce request (latest_ending t events no_locks None)

-- where the event is a wait that was answered Done, the thread held the lock at Write, by its locks before the event
abbrev pub WaitIsHeld : Event → Locks → Type 0
WaitIsHeld (Act thread (Wait l) Done woken) locks = hold_level (hold_in l locks.holds) ≡ Some Write
WaitIsHeld event locks = Unit {0}

-- each wait among the thread's events was of a lock that it held at Write, by its locks before the first event
abbrev pub WaitsAreHeld : ThreadId → List Event → Locks → Type 0
WaitsAreHeld t [] locks = Unit {0}
WaitsAreHeld t (event ∷ events) locks = WaitIsHeld event locks × WaitsAreHeld t events (locks_after t event locks)

-- Sound: wherever events of a thread follow the program, none told it of object 0, and it waited only on locks that it
-- held at Write, its next request keeps to this; and it goes by requests and replies alone: after the same acts it asks
-- the same, whomever they woke.
pub record AsksSoundly (shape : Shape) (next : ThreadId → List Event → Option Request) : Type 0 where
  pub keeps : (t : ThreadId) (events : List Event) (request : Request) → AreActsOf t events
      → list_any (event_tells 0) events ≡ false
      → WaitsAreHeld t events no_locks → FollowsProgram next (Listed next) t events → next t events ≡ Some request
      → KeepsTo shape t events request
  pub goes_by_replies : (t : ThreadId) (events same : List Event) → AreSameActs events same
      → next t same ≡ next t events

-- the event is an act whose reply tells the thread of the text: it read it
abbrev pub event_tells_text : ℕ → Event → Bool
event_tells_text text (Act thread request (Val (value.Text told)) woken) = eqb told text
event_tells_text text event = false

-- the text is one of the program's, or one of the thread's events told it of the text
abbrev pub IsToldText : Shape → List Event → ℕ → Type 0
IsToldText shape events text = (text < shape.texts) ⊎ (list_any (event_tells_text text) events ≡ true)

-- the text that the value is, if it is a text, is one of those that may be named
abbrev pub IsTextAmong : (ℕ → Type 0) → Value → Type 0
IsTextAmong MayBeNamed (value.Text text) = MayBeNamed text
IsTextAmong MayBeNamed v = Unit {0}

-- the request stores and prints no other text than those that may be named
abbrev pub GivesTextsAmong : (ℕ → Type 0) → Request → Type 0
GivesTextsAmong MayBeNamed (New class n) = Unit {0}
GivesTextsAmong MayBeNamed (Look o) = Unit {0}
GivesTextsAmong MayBeNamed (Get o f) = Unit {0}
GivesTextsAmong MayBeNamed (Put o f v) = IsTextAmong MayBeNamed v
GivesTextsAmong MayBeNamed (Enter l level) = Unit {0}
GivesTextsAmong MayBeNamed (Exit l) = Unit {0}
GivesTextsAmong MayBeNamed (Wait l) = Unit {0}
GivesTextsAmong MayBeNamed (Tick l) = Unit {0}
GivesTextsAmong MayBeNamed (Timeout l) = Unit {0}
GivesTextsAmong MayBeNamed (Resume l) = Unit {0}
GivesTextsAmong MayBeNamed (Notify l) = Unit {0}
GivesTextsAmong MayBeNamed (NotifyAll l) = Unit {0}
GivesTextsAmong MayBeNamed (Print v) = IsTextAmong MayBeNamed v
GivesTextsAmong MayBeNamed (End fault) = Unit {0}
GivesTextsAmong MayBeNamed Pause = Unit {0}
GivesTextsAmong MayBeNamed Settle = Unit {0}

-- Known texts: wherever events of a thread follow the program so, its next request stores and prints only texts of the
-- program and texts that it was told.
abbrev pub GivesKnownTexts : Shape → (ThreadId → List Event → Option Request) → Type 0
GivesKnownTexts shape next = (t : ThreadId) (events : List Event) (request : Request) → AreActsOf t events
    → list_any (event_tells 0) events ≡ false → WaitsAreHeld t events no_locks
    → FollowsProgram next (Listed next) t events
    → next t events ≡ Some request → GivesTextsAmong (IsToldText shape events) request

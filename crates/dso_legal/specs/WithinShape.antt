-- What messages that fit ask of a program, beside its being sound: it uses only places, locks and objects that are
-- there.
use Rattle.std.specs.List.{list_any, Any}
use Rattle.std.specs.Prelude.{ℕ, ◌<◌, ◌≡◌, ◌⊎◌, false, Option, Some, List}
use Rattle.dso_base.specs.declared.lock.LockName.{LockName}
use Rattle.dso_base.specs.declared.lock.LockName.TheVariants.{Mon, Name}
use Rattle.dso_base.specs.declared.lock.ThreadId.{ThreadId}
use Rattle.dso_base.specs.declared.request.Event.{Event}
use Rattle.dso_base.specs.declared.request.Event.TheVariants.{Act}
use Rattle.dso_base.specs.declared.request.Reply.TheVariants.{Seen}
use Rattle.dso_base.specs.declared.request.Request.{Request}
use Rattle.dso_base.specs.declared.request.Request.TheVariants.{New, Look, Get, Put, Enter, Exit, Wait, Tick, Timeout}
use Rattle.dso_base.specs.declared.request.Request.TheVariants.{Resume, Notify, NotifyAll, Print, End, Pause, Settle}
use Rattle.dso_base.specs.declared.shape.Shape.{Shape}
use Rattle.dso_base.specs.declared.value.ClassId.{ClassId}
use Rattle.dso_base.specs.declared.value.ClassId.TheVariants.{Plain, Array, Roots}
use Rattle.dso_base.specs.Following.{Listed, FollowsProgram}
use Rattle.dso_base.specs.Shape.{HasField, kind_of}
use Rattle.dso_base.specs.Value.{Fits}
use Rattle.dso_plain.specs.Touches.{AreActsOf}
use Rattle.dso_legal.specs.PendingBlocks.{no_locks}
use Rattle.dso_legal.specs.SoundProgram.{event_tells, IsToldValue, WaitsAreHeld}

-- an object of this class and size has the place: a field of its class, a root, an element below the array's size
abbrev pub HasPlace : Shape → ClassId → ℕ → ℕ → Type 0
HasPlace shape (Plain number) size place = HasField shape (Plain number) place
HasPlace shape (Array kind) size place = place < size
HasPlace shape Roots size place = HasField shape Roots place

-- the event is a look at the object, which saw it to be of this class and size
abbrev pub IsLookAt : ℕ → ClassId → ℕ → Event → Type 0
IsLookAt o class size (Act thread (Look looked) (Seen seen n) woken) = (looked ≡ o) × (seen ≡ class) × (n ≡ size)
IsLookAt o class size event = ⊥

-- The thread knows the object's class and size: it is object 0, which has the roots, or one of the events looked at
-- it.
abbrev pub KnowsClass : ℕ → ClassId → ℕ → List Event → Type 0
KnowsClass o class size events = ((o ≡ 0) × (class ≡ Roots)) ⊎ Any (IsLookAt o class size) events

-- the thread knows a class and a size of the object that have the place
pub record KnowsPlace (shape : Shape) (o place : ℕ) (events : List Event) : Type 0 where
  pub class : ClassId
  pub size : ℕ
  pub known : KnowsClass o class size events
  pub there : HasPlace shape class size place

-- a name is one that the program's shape has
abbrev pub IsLockThere : Shape → LockName → Type 0
IsLockThere shape (Mon o) = Unit {0}
IsLockThere shape (Name n) = n < shape.names

-- A thread reads and writes only places that it knows, and writes only what fits them; by name it enters only locks
-- that are there; and it prints no object but those that it was told of.
abbrev pub UsesWhatIsThere : Shape → Request → List Event → Type 0
UsesWhatIsThere shape (New class n) events = Unit {0}
UsesWhatIsThere shape (Look o) events = Unit {0}
UsesWhatIsThere shape (Get o f) events = KnowsPlace shape o f events
UsesWhatIsThere shape (Put o f v) events = (place : KnowsPlace shape o f events) × Fits (kind_of shape place.class f) v
UsesWhatIsThere shape (Enter l level) events = IsLockThere shape l
UsesWhatIsThere shape (Exit l) events = Unit {0}
UsesWhatIsThere shape (Wait l) events = Unit {0}
UsesWhatIsThere shape (Tick l) events = Unit {0}
UsesWhatIsThere shape (Timeout l) events = Unit {0}
UsesWhatIsThere shape (Resume l) events = Unit {0}
UsesWhatIsThere shape (Notify l) events = Unit {0}
UsesWhatIsThere shape (NotifyAll l) events = Unit {0}
UsesWhatIsThere shape (Print v) events = IsToldValue v events
UsesWhatIsThere shape (End fault) events = Unit {0}
UsesWhatIsThere shape Pause events = Unit {0}
UsesWhatIsThere shape Settle events = Unit {0}

-- Within its shape: wherever events of a thread follow the program, none told it of object 0, and it waited only on
-- locks that it held at Write, its next request uses only what is there.
abbrev pub StaysWithinShape : Shape → (ThreadId → List Event → Option Request) → Type 0
StaysWithinShape shape next = (t : ThreadId) (events : List Event) (request : Request) → AreActsOf t events
    → list_any (event_tells 0) events ≡ false → WaitsAreHeld t events no_locks
    → FollowsProgram next (Listed next) t events
    → next t events ≡ Some request → UsesWhatIsThere shape request events

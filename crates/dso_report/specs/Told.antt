-- What a thread may name: a text of its program, and what replies told it, which are objects that it made or read,
-- and texts that it read.
use Rattle.std.specs.Prelude.{ℕ, ◌≡◌, ◌<◌, ◌⊎◌, List, [], ◌∷◌, Some}
use Rattle.dso_base.specs.declared.lock.LockName.{LockName}
use Rattle.dso_base.specs.declared.lock.LockName.TheVariants.{Mon, Name}
use Rattle.dso_base.specs.declared.lock.ThreadId.{ThreadId}
use Rattle.dso_base.specs.declared.request.Event.{Event}
use Rattle.dso_base.specs.declared.request.Event.TheVariants.{Act, Lost}
use Rattle.dso_base.specs.declared.request.Reply.{Reply}
use Rattle.dso_base.specs.declared.request.Reply.TheVariants.{Made, Val}
use Rattle.dso_base.specs.declared.request.Request.{Request}
use Rattle.dso_base.specs.declared.request.Request.TheVariants.{New, Look, Get, Put, Enter, Exit, Wait, Tick, Timeout}
use Rattle.dso_base.specs.declared.request.Request.TheVariants.{Resume, Notify, NotifyAll, Print, End, Pause, Settle}
use Rattle.dso_base.specs.declared.value.Value.{Value}
use Rattle.dso_base.specs.declared.value.Value.TheVariants as value
use Rattle.dso_base.specs.Following.{FollowsProgram, Listed}
use Rattle.dso_machine.specs.declared.code.Code.{Code}
use Rattle.dso_machine.specs.Next.{next_request}
use Rattle.dso_machine.specs.Sound.{IsSoundCode}

-- the reply tells of the value: it is what was read, or the object that was made
abbrev pub Tells : Value → Reply → Type 0
Tells v (Val read) = v ≡ read
Tells v (Made object) = v ≡ value.Ref object
Tells v reply = ⊥

-- the reply of one of the events tells of the value
abbrev pub WasTold : List Event → Value → Type 0
WasTold [] v = ⊥
WasTold (Act thread request reply woken ∷ events) v = Tells v reply ⊎ WasTold events v
WasTold (Lost client ∷ events) v = WasTold events v

-- Which texts and which objects are known.
module _ (IsText IsObject : ℕ → Type 0) where
  -- the text or the object that the value names, if it names one, is known
  abbrev pub IsKnownValue : Value → Type 0
  IsKnownValue (value.Text text) = IsText text
  IsKnownValue (value.Ref object) = IsObject object
  IsKnownValue v = Unit {0}

  -- the lock is a name, or the monitor of an object that is known
  abbrev pub IsKnownLock : LockName → Type 0
  IsKnownLock (Mon object) = IsObject object
  IsKnownLock (Name name) = Unit {0}

  -- The request names only what is known; and object 0, where it reads or binds a root.
  abbrev pub NamesOnlyKnown : Request → Type 0
  NamesOnlyKnown (New class n) = Unit {0}
  NamesOnlyKnown (Look object) = IsObject object
  NamesOnlyKnown (Get object field) = (object ≡ 0) ⊎ IsObject object
  NamesOnlyKnown (Put object field v) = ((object ≡ 0) ⊎ IsObject object) × IsKnownValue v
  NamesOnlyKnown (Enter lock level) = IsKnownLock lock
  NamesOnlyKnown (Exit lock) = IsKnownLock lock
  NamesOnlyKnown (Wait lock) = IsKnownLock lock
  NamesOnlyKnown (Tick lock) = IsKnownLock lock
  NamesOnlyKnown (Timeout lock) = IsKnownLock lock
  NamesOnlyKnown (Resume lock) = IsKnownLock lock
  NamesOnlyKnown (Notify lock) = IsKnownLock lock
  NamesOnlyKnown (NotifyAll lock) = IsKnownLock lock
  NamesOnlyKnown (Print v) = IsKnownValue v
  NamesOnlyKnown (End fault) = Unit {0}
  NamesOnlyKnown Pause = Unit {0}
  NamesOnlyKnown Settle = Unit {0}

-- a text of the program, or one that the thread was told of
abbrev pub IsTextOf : Code → List Event → ℕ → Type 0
IsTextOf code events text = (text < code.shape.texts) ⊎ WasTold events (value.Text text)

-- an object that the thread was told of
abbrev pub IsObjectOf : List Event → ℕ → Type 0
IsObjectOf events object = WasTold events (value.Ref object)

-- Wherever a thread of sound code follows its program with listed replies, its next request names only texts of the
-- program, and texts and objects that it was told of.
abbrev pub ThreadsNameWhatTheyWereTold : Type 0
ThreadsNameWhatTheyWereTold = (code : Code) (t : ThreadId) (events : List Event) (request : Request) → IsSoundCode code
    → FollowsProgram (next_request code) (Listed (next_request code)) t events
    → next_request code t events ≡ Some request → NamesOnlyKnown (IsTextOf code events) (IsObjectOf events) request

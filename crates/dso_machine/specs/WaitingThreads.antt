-- What a thread asks while it waits: nothing but its ticks, one timeout and the lock.
use Rattle.std.specs.Prelude.{◌≡◌, true, List, [], ◌∷◌, Option, None, Some}
use Rattle.dso_base.specs.declared.lock.LockName.{LockName}
use Rattle.dso_base.specs.declared.request.Event.{Event}
use Rattle.dso_base.specs.declared.request.Event.TheVariants.{Act, Lost}
use Rattle.dso_base.specs.declared.request.Reply.{Reply}
use Rattle.dso_base.specs.declared.request.Reply.TheVariants.{Done, Val}
use Rattle.dso_base.specs.declared.request.Request.{Request}
use Rattle.dso_base.specs.declared.request.Request.TheVariants.{New, Look, Get, Put, Enter, Exit, Wait, Tick, Timeout}
use Rattle.dso_base.specs.declared.request.Request.TheVariants.{Resume, Notify, NotifyAll, Print, End, Pause, Settle}
use Rattle.dso_base.specs.declared.value.Value.TheVariants as value

-- whether a thread waits: it is awake; it waits on the lock; it waits on it still, but was told that it was woken, or
-- its wait timed out
pub data Waiting : Type 0 where
  Awake : Waiting
  Asleep : LockName → Waiting
  Roused : LockName → Waiting

-- whether a thread waits after a request and its reply
abbrev pub waiting_after_reply : Request → Reply → Waiting → Waiting
waiting_after_reply (Wait l) Done waiting = Asleep l
waiting_after_reply (Wait l) r waiting = waiting
waiting_after_reply (Tick l) (Val (value.Bool true)) waiting = Roused l
waiting_after_reply (Tick l) r waiting = waiting
waiting_after_reply (Timeout l) r waiting = Roused l
waiting_after_reply (Resume l) r waiting = Awake
waiting_after_reply (New class n) r waiting = waiting
waiting_after_reply (Look o) r waiting = waiting
waiting_after_reply (Get o f) r waiting = waiting
waiting_after_reply (Put o f v) r waiting = waiting
waiting_after_reply (Enter l level) r waiting = waiting
waiting_after_reply (Exit l) r waiting = waiting
waiting_after_reply (Notify l) r waiting = waiting
waiting_after_reply (NotifyAll l) r waiting = waiting
waiting_after_reply (Print v) r waiting = waiting
waiting_after_reply (End fault) r waiting = waiting
waiting_after_reply Pause r waiting = waiting
waiting_after_reply Settle r waiting = waiting

-- whether it waits after its events, by how it was before them
abbrev pub waiting_after : Waiting → List Event → Waiting
waiting_after waiting [] = waiting
waiting_after waiting (Act thread q r woken ∷ events) = waiting_after (waiting_after_reply q r waiting) events
waiting_after waiting (Lost client ∷ events) = waiting_after waiting events

-- the lock on which a thread waits that asks this, None where it asks as one that is awake
abbrev pub waited_on : Request → Option LockName
waited_on (Tick l) = Some l
waited_on (Timeout l) = Some l
waited_on (Resume l) = Some l
waited_on (New class n) = None
waited_on (Look o) = None
waited_on (Get o f) = None
waited_on (Put o f v) = None
waited_on (Enter l level) = None
waited_on (Exit l) = None
waited_on (Wait l) = None
waited_on (Notify l) = None
waited_on (NotifyAll l) = None
waited_on (Print v) = None
waited_on (End fault) = None
waited_on Pause = None
waited_on Settle = None

-- the lock that is waited on by what is asked, if something is
abbrev pub waited_on_by : Option Request → Option LockName
waited_on_by None = None
waited_on_by (Some q) = waited_on q

-- A thread that is awake asks for no tick, no timeout and no lock again; one that waits on a lock asks for nothing
-- else, and of that lock; once it was told that it was woken, or its wait timed out, it asks for the lock again.
abbrev pub AsksAsItWaits : Waiting → Option Request → Type 0
AsksAsItWaits Awake next = waited_on_by next ≡ None
AsksAsItWaits (Asleep l) next = waited_on_by next ≡ Some l
AsksAsItWaits (Roused l) next = next ≡ Some (Resume l)

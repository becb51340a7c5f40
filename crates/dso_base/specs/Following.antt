-- What it is to follow a program: which replies are listed for a request, and that each event of a thread is its next
-- one.
use Rattle.std.specs.Prelude.{◌≡◌, Bool, true, eqb, ◌&&◌, Option, Some, None, List, [], ◌∷◌, ◌++◌}
use Rattle.dso_base.specs.declared.lock.ThreadId.{ThreadId}
use Rattle.dso_base.specs.declared.request.Event.{Event}
use Rattle.dso_base.specs.declared.request.Event.TheVariants.{Act, Lost}
use Rattle.dso_base.specs.declared.request.Fault.TheVariants.{UnlockedSharedObject, WrongLock, ReadOnly, LockUpgrade}
use Rattle.dso_base.specs.declared.request.Fault.TheVariants.{IllegalMonitor}
use Rattle.dso_base.specs.declared.request.Reply.{Reply}
use Rattle.dso_base.specs.declared.request.Reply.TheVariants.{Done, Made, Seen, Val, Local, Refused}
use Rattle.dso_base.specs.declared.request.Request.{Request}
use Rattle.dso_base.specs.declared.request.Request.TheVariants.{New, Look, Get, Put, Enter, Exit, Wait, Tick, Timeout}
use Rattle.dso_base.specs.declared.request.Request.TheVariants.{Resume, Notify, NotifyAll, Print, End, Pause, Settle}
use Rattle.dso_base.specs.declared.value.Value.TheVariants as value

-- the key is this thread
abbrev pub is_thread : ThreadId → ThreadId → Bool
is_thread t key = eqb key.client t.client && eqb key.index t.index

-- The replies that are listed for a request: a new object, its class, a value; to a tick whether the thread was woken,
-- and true to a timeout that comes too late; of a put, an entry and the monitor requests also the refusals; to all else
-- Done.
abbrev pub IsListed : Request → Reply → Type 0
IsListed (New class n) (Made o) = Unit {0}
IsListed (Look o) (Seen class n) = Unit {0}
IsListed (Get o f) (Val v) = Unit {0}
IsListed (Put o f v) Done = Unit {0}
IsListed (Put o f v) (Refused UnlockedSharedObject) = Unit {0}
IsListed (Put o f v) (Refused WrongLock) = Unit {0}
IsListed (Put o f v) (Refused ReadOnly) = Unit {0}
IsListed (Enter l level) Done = Unit {0}
IsListed (Enter l level) Local = Unit {0}
IsListed (Enter l level) (Refused LockUpgrade) = Unit {0}
IsListed (Exit l) Done = Unit {0}
IsListed (Wait l) Done = Unit {0}
IsListed (Wait l) (Refused IllegalMonitor) = Unit {0}
IsListed (Tick l) (Val (value.Bool woken)) = Unit {0}
IsListed (Timeout l) Done = Unit {0}
IsListed (Timeout l) (Val (value.Bool true)) = Unit {0}
IsListed (Resume l) Done = Unit {0}
IsListed (Notify l) Done = Unit {0}
IsListed (Notify l) (Refused IllegalMonitor) = Unit {0}
IsListed (NotifyAll l) Done = Unit {0}
IsListed (NotifyAll l) (Refused IllegalMonitor) = Unit {0}
IsListed (Print v) Done = Unit {0}
IsListed (End fault) Done = Unit {0}
IsListed Pause Done = Unit {0}
IsListed Settle Done = Unit {0}
IsListed request reply = ⊥

-- the reply is listed for the next request; none is where there is no request
abbrev pub IsListedFor : Option Request → Reply → Type 0
IsListedFor None reply = ⊥
IsListedFor (Some request) reply = IsListed request reply

-- the reply is listed for what a thread asks next after its events
abbrev pub Listed : (ThreadId → List Event → Option Request) → ThreadId → List Event → Reply → Type 0
Listed next t events reply = IsListedFor (next t events) reply

-- A program tells the next request of a thread after its events so far (None after its end), and which replies are
-- listed for that request.
module _ (next : ThreadId → List Event → Option Request) (IsReply : ThreadId → List Event → Reply → Type 0) where
  -- the event has the thread's next request after the events before it, and a reply that is listed there
  abbrev pub IsNext : ThreadId → List Event → Event → Type 0
  IsNext t before (Act thread request reply woken) = (next t before ≡ Some request) × IsReply t before reply
  IsNext t before (Lost client) = ⊥

  -- each event is the next one after those before it
  abbrev pub FollowsFrom : ThreadId → List Event → List Event → Type 0
  FollowsFrom t before [] = Unit {0}
  FollowsFrom t before (e ∷ es) = IsNext t before e × FollowsFrom t (before ++ e ∷ []) es

  -- the thread's events follow the program from its start
  abbrev pub FollowsProgram : ThreadId → List Event → Type 0
  FollowsProgram t es = FollowsFrom t [] es

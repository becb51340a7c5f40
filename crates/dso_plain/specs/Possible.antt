-- When an event is possible: what a thread must find for each request with its reply.
use Rattle.std.specs.Prelude.{ℕ, ◌≤◌, ◌≡◌, ◌≢◌, ◌⊎◌, true, false, Option, Some, None, List, [], ◌∷◌, length, slice_get}
use Rattle.dso_base.specs.declared.lock.Level.{Level}
use Rattle.dso_base.specs.declared.lock.Level.TheVariants.{Read, Write}
use Rattle.dso_base.specs.declared.lock.LockName.{LockName}
use Rattle.dso_base.specs.declared.lock.LockName.TheVariants.{Mon, Name}
use Rattle.dso_base.specs.declared.lock.ThreadId.{ThreadId}
use Rattle.dso_base.specs.declared.request.Event.{Event}
use Rattle.dso_base.specs.declared.request.Event.TheVariants.{Act, Lost}
use Rattle.dso_base.specs.declared.request.Fault.TheVariants.{UnlockedSharedObject, WrongLock, ReadOnly, LockUpgrade}
use Rattle.dso_base.specs.declared.request.Fault.TheVariants.{IllegalMonitor}
use Rattle.dso_base.specs.declared.request.Reply.{Reply}
use Rattle.dso_base.specs.declared.request.Reply.TheVariants.{Done, Made, Seen, Val, Local, Refused}
use Rattle.dso_base.specs.declared.request.Request.{Request}
use Rattle.dso_base.specs.declared.request.Request.TheVariants.{New, Look, Get, Put, Enter, Exit, Wait, Tick, Timeout}
use Rattle.dso_base.specs.declared.request.Request.TheVariants.{Resume, Notify, NotifyAll, Print, End, Pause, Settle}
use Rattle.dso_base.specs.declared.shape.ClassShape.{ClassShape}
use Rattle.dso_base.specs.declared.shape.Shape.{Shape}
use Rattle.dso_base.specs.declared.value.ClassId.{ClassId}
use Rattle.dso_base.specs.declared.value.ClassId.TheVariants as class
use Rattle.dso_base.specs.declared.value.Value.{Value}
use Rattle.dso_base.specs.declared.value.Value.TheVariants as value
use Rattle.dso_plain.specs.State.{Object, Hold, PlainState, IsPrivate, IsShared, HasField, HoldsGuard, HoldsNothing}
use Rattle.dso_plain.specs.State.{hold_on_guard, level_of}

-- the number of fields of a class that is there
abbrev pub IsFieldCount : Option ClassShape → ℕ → Type 0
IsFieldCount None n = ⊥
IsFieldCount (Some class) n = n ≡ length class.fields

-- how many elements an array has at most
abbrev pub most_elements : ℕ
most_elements = 256

-- a class of the program with its number of fields, or an array with no more elements than an array has at most
abbrev pub CanBeMade : Shape → ClassId → ℕ → Type 0
CanBeMade shape (class.Plain number) n = IsFieldCount (slice_get shape.classes number) n
CanBeMade shape (class.Array kind) n = n ≤ most_elements
CanBeMade shape class.Roots n = ⊥

-- New: the id is at least 1 and no object's yet, and the class has such objects.
abbrev pub AnswersNew : Shape → ClassId → ℕ → Reply → PlainState → Type 0
AnswersNew shape class n (Made o) s = (1 ≤ o) × (s.objects o ≡ None) × CanBeMade shape class n
AnswersNew shape class n reply s = ⊥

-- the object is of this class and size
abbrev pub IsOf : ClassId → ℕ → Option Object → Type 0
IsOf class n None = ⊥
IsOf class n (Some object) = (object.class ≡ class) × (object.size ≡ n)

-- Look: the object is the thread's own or shared; the reply is its class and size.
abbrev pub AnswersLook : ThreadId → ℕ → Reply → PlainState → Type 0
AnswersLook t o (Seen class n) s = (IsPrivate t o s ⊎ IsShared o s) × IsOf class n (s.objects o)
AnswersLook t o reply s = ⊥

-- the value stands in the past at or after this place
abbrev pub StandsFrom : ℕ → Value → List Value → Type 0
StandsFrom place v [] = ⊥
StandsFrom place v (newest ∷ older) = ((place ≤ length older) × (v ≡ newest)) ⊎ StandsFrom place v older

-- Get of an object private to the thread: the value is the heap's.
abbrev pub ReadsPrivate : ThreadId → ℕ → ℕ → Value → PlainState → Type 0
ReadsPrivate t o f v s = IsPrivate t o s × (s.heap (o, f) ≡ Some v)

-- Get of a shared object under the guard: the value is the heap's.
abbrev pub ReadsGuarded : Shape → ThreadId → ℕ → ℕ → Value → PlainState → Type 0
ReadsGuarded shape t o f v s = IsShared o s × HoldsGuard shape t o f s × (s.heap (o, f) ≡ Some v)

-- Get of a shared object without the guard: any value of the past from the place on that the thread has seen.
abbrev pub ReadsUnguarded : Shape → ThreadId → ℕ → ℕ → Value → PlainState → Type 0
ReadsUnguarded shape t o f v s = IsShared o s × (hold_on_guard shape t o f s ≡ None)
    × StandsFrom (s.seen (t, o, f)) v (s.past (o, f))

-- Get: one of the three.
abbrev pub AnswersGet : Shape → ThreadId → ℕ → ℕ → Reply → PlainState → Type 0
AnswersGet shape t o f (Val v) s = ReadsPrivate t o f v s ⊎ ReadsGuarded shape t o f v s ⊎ ReadsUnguarded shape t o f
    v s
AnswersGet shape t o f reply s = ⊥

-- Put, with the object's having the field asked for beside it. Done: the object is private to the thread, or it is
-- shared and the guard is held at Write. Refused, of a shared object alone: UnlockedSharedObject where the thread
-- holds no lock, ReadOnly where it holds the guard at Read, WrongLock where it holds a lock and not the guard.
abbrev pub MayPut : Shape → ThreadId → ℕ → ℕ → Reply → PlainState → Type 0
MayPut shape t o f Done s = IsPrivate t o s ⊎ (IsShared o s × (level_of (hold_on_guard shape t o f s) ≡ Some Write))
MayPut shape t o f (Refused UnlockedSharedObject) s = IsShared o s × HoldsNothing t s
MayPut shape t o f (Refused ReadOnly) s = IsShared o s × (level_of (hold_on_guard shape t o f s) ≡ Some Read)
MayPut shape t o f (Refused WrongLock) s = IsShared o s × ((l : LockName) × (s.monitors (l, t) ≢ None))
    × (hold_on_guard shape t o f s ≡ None)
MayPut shape t o f reply s = ⊥

-- Put: the object has the field, and one of the four.
abbrev pub AnswersPut : Shape → ThreadId → ℕ → ℕ → Reply → PlainState → Type 0
AnswersPut shape t o f reply s = HasField o f s × MayPut shape t o f reply s

-- the lock is the monitor of an object private to the thread
abbrev pub IsPrivateMonitor : ThreadId → LockName → PlainState → Type 0
IsPrivateMonitor t (Mon o) s = IsPrivate t o s
IsPrivateMonitor t (Name n) s = ⊥

-- the lock is a name, or the monitor of a shared object other than object 0
abbrev pub IsClusterLock : LockName → PlainState → Type 0
IsClusterLock (Mon o) s = IsShared o s × (o ≢ 0)
IsClusterLock (Name n) s = Unit {0}

-- wanted at Write where it is held at Read
abbrev pub IsUpgrade : Level → Option Hold → Type 0
IsUpgrade Write hold = level_of hold ≡ Some Read
IsUpgrade Read hold = ⊥

-- the two levels do not conflict: another thread has none, or both are Read
abbrev pub IsCompatible : Level → Option Level → Type 0
IsCompatible level None = Unit {0}
IsCompatible Read (Some Read) = Unit {0}
IsCompatible level other = ⊥

-- no other thread holds the lock in conflict with the level
abbrev pub NoConflict : ThreadId → LockName → Level → PlainState → Type 0
NoConflict t l level s = (other : ThreadId) → other ≢ t → IsCompatible level (level_of (s.monitors (l, other)))

-- Enter. Local: the lock is the monitor of an object private to the thread. LockUpgrade: the thread holds the lock
-- at Read and wants Write. Done: a lock of the cluster, no upgrade, and the thread holds it or no other in conflict.
abbrev pub AnswersEnter : ThreadId → LockName → Level → Reply → PlainState → Type 0
AnswersEnter t l level Local s = IsPrivateMonitor t l s
AnswersEnter t l level (Refused LockUpgrade) s = IsUpgrade level (s.monitors (l, t))
AnswersEnter t l level Done s = IsClusterLock l s × (IsUpgrade level (s.monitors (l, t)) → ⊥)
    × ((s.monitors (l, t) ≢ None) ⊎ NoConflict t l level s)
AnswersEnter t l level reply s = ⊥

-- Exit: the thread holds the lock.
abbrev pub AnswersExit : ThreadId → LockName → Reply → PlainState → Type 0
AnswersExit t l Done s = s.monitors (l, t) ≢ None
AnswersExit t l reply s = ⊥

-- the thread holds the lock at Write
abbrev pub HoldsWrite : ThreadId → LockName → PlainState → Type 0
HoldsWrite t l s = level_of (s.monitors (l, t)) ≡ Some Write

-- Wait, Notify and NotifyAll: done where the thread holds the lock at Write, else refused.
abbrev pub AnswersMonitor : ThreadId → LockName → Reply → PlainState → Type 0
AnswersMonitor t l Done s = HoldsWrite t l s
AnswersMonitor t l (Refused IllegalMonitor) s = HoldsWrite t l s → ⊥
AnswersMonitor t l reply s = ⊥

-- Tick: the thread waits on the lock; the reply tells whether it is marked there.
abbrev pub AnswersTick : ThreadId → LockName → Reply → PlainState → Type 0
AnswersTick t l (Val (value.Bool woken)) s = s.asleep (l, t) ≢ None
AnswersTick t l reply s = ⊥

-- Timeout: the thread waits on the lock. Done, or true where it is marked there already.
abbrev pub AnswersTimeout : ThreadId → LockName → Reply → PlainState → Type 0
AnswersTimeout t l Done s = s.asleep (l, t) ≢ None
AnswersTimeout t l (Val (value.Bool true)) s = s.asleep (l, t) ≢ None
AnswersTimeout t l reply s = ⊥

-- Resume: the thread waits on the lock, and nobody holds it.
abbrev pub AnswersResume : ThreadId → LockName → Reply → PlainState → Type 0
AnswersResume t l Done s = (s.asleep (l, t) ≢ None) × ((other : ThreadId) → s.monitors (l, other) ≡ None)
AnswersResume t l reply s = ⊥

-- done, and always possible
abbrev pub AnswersDone : Reply → Type 0
AnswersDone Done = Unit {0}
AnswersDone reply = ⊥

-- End: the thread holds no lock.
abbrev pub AnswersEnd : ThreadId → Reply → PlainState → Type 0
AnswersEnd t Done s = HoldsNothing t s
AnswersEnd t reply s = ⊥

-- the reply is possible for the request, whatever is marked: the lines above, one for each kind of request
abbrev pub AnswersRequest : Shape → ThreadId → Request → Reply → PlainState → Type 0
AnswersRequest shape t (New class n) reply s = AnswersNew shape class n reply s
AnswersRequest shape t (Look o) reply s = AnswersLook t o reply s
AnswersRequest shape t (Get o f) reply s = AnswersGet shape t o f reply s
AnswersRequest shape t (Put o f v) reply s = AnswersPut shape t o f reply s
AnswersRequest shape t (Enter l level) reply s = AnswersEnter t l level reply s
AnswersRequest shape t (Exit l) reply s = AnswersExit t l reply s
AnswersRequest shape t (Wait l) reply s = AnswersMonitor t l reply s
AnswersRequest shape t (Tick l) reply s = AnswersTick t l reply s
AnswersRequest shape t (Timeout l) reply s = AnswersTimeout t l reply s
AnswersRequest shape t (Resume l) reply s = AnswersResume t l reply s
AnswersRequest shape t (Notify l) reply s = AnswersMonitor t l reply s
AnswersRequest shape t (NotifyAll l) reply s = AnswersMonitor t l reply s
AnswersRequest shape t (Print v) reply s = AnswersDone reply
AnswersRequest shape t (End fault) reply s = AnswersEnd t reply s
AnswersRequest shape t Pause reply s = AnswersDone reply
AnswersRequest shape t Settle reply s = AnswersDone reply

-- the thread waits on the lock and is not marked there: it was not notified and has not timed out
abbrev pub IsUnmarkedWaiter : LockName → ThreadId → PlainState → Type 0
IsUnmarkedWaiter l w s = (s.asleep (l, w) ≢ None) × (s.marked (l, w) ≡ false)

-- Whom the event wakes: a done Notify one unmarked waiter of the lock, and nobody exactly where there is none.
-- Every other event names nobody.
abbrev pub Wakes : Request → Reply → Option ThreadId → PlainState → Type 0
Wakes (Notify l) Done None s = (w : ThreadId) → IsUnmarkedWaiter l w s → ⊥
Wakes (Notify l) Done (Some w) s = IsUnmarkedWaiter l w s
Wakes (Notify l) reply woken s = woken ≡ None
Wakes (New class n) reply woken s = woken ≡ None
Wakes (Look o) reply woken s = woken ≡ None
Wakes (Get o f) reply woken s = woken ≡ None
Wakes (Put o f v) reply woken s = woken ≡ None
Wakes (Enter l level) reply woken s = woken ≡ None
Wakes (Exit l) reply woken s = woken ≡ None
Wakes (Wait l) reply woken s = woken ≡ None
Wakes (Tick l) reply woken s = woken ≡ None
Wakes (Timeout l) reply woken s = woken ≡ None
Wakes (Resume l) reply woken s = woken ≡ None
Wakes (NotifyAll l) reply woken s = woken ≡ None
Wakes (Print v) reply woken s = woken ≡ None
Wakes (End fault) reply woken s = woken ≡ None
Wakes Pause reply woken s = woken ≡ None
Wakes Settle reply woken s = woken ≡ None

-- What an act asks of its thread's mark: a Resume, and a Tick or Timeout that tells that the thread was woken, find it
-- marked on the lock. No other act asks for a mark.
abbrev pub FindsMark : Request → Reply → ThreadId → PlainState → Type 0
FindsMark (Tick l) (Val (value.Bool true)) t s = s.marked (l, t) ≡ true
FindsMark (Tick l) reply t s = Unit {0}
FindsMark (Timeout l) (Val (value.Bool true)) t s = s.marked (l, t) ≡ true
FindsMark (Timeout l) reply t s = Unit {0}
FindsMark (Resume l) reply t s = s.marked (l, t) ≡ true
FindsMark (New class n) reply t s = Unit {0}
FindsMark (Look o) reply t s = Unit {0}
FindsMark (Get o f) reply t s = Unit {0}
FindsMark (Put o f v) reply t s = Unit {0}
FindsMark (Enter l level) reply t s = Unit {0}
FindsMark (Exit l) reply t s = Unit {0}
FindsMark (Wait l) reply t s = Unit {0}
FindsMark (Notify l) reply t s = Unit {0}
FindsMark (NotifyAll l) reply t s = Unit {0}
FindsMark (Print v) reply t s = Unit {0}
FindsMark (End fault) reply t s = Unit {0}
FindsMark Pause reply t s = Unit {0}
FindsMark Settle reply t s = Unit {0}

-- the thread waits on no lock
abbrev pub IsAwake : ThreadId → PlainState → Type 0
IsAwake t s = (l : LockName) → s.asleep (l, t) ≡ None

-- A thread that waits does nothing but tick, time out and resume.
abbrev pub IsAwakeFor : Request → ThreadId → PlainState → Type 0
IsAwakeFor (Tick l) t s = Unit {0}
IsAwakeFor (Timeout l) t s = Unit {0}
IsAwakeFor (Resume l) t s = Unit {0}
IsAwakeFor (New class n) t s = IsAwake t s
IsAwakeFor (Look o) t s = IsAwake t s
IsAwakeFor (Get o f) t s = IsAwake t s
IsAwakeFor (Put o f v) t s = IsAwake t s
IsAwakeFor (Enter l level) t s = IsAwake t s
IsAwakeFor (Exit l) t s = IsAwake t s
IsAwakeFor (Wait l) t s = IsAwake t s
IsAwakeFor (Notify l) t s = IsAwake t s
IsAwakeFor (NotifyAll l) t s = IsAwake t s
IsAwakeFor (Print v) t s = IsAwake t s
IsAwakeFor (End fault) t s = IsAwake t s
IsAwakeFor Pause t s = IsAwake t s
IsAwakeFor Settle t s = IsAwake t s

-- What an act needs, whatever is marked: its client is not lost, the thread has not ended and does not wait (but to
-- tick, time out or resume), and the reply is possible for the request.
pub record IsPossibleButMarks (shape : Shape) (t : ThreadId) (request : Request) (reply : Reply)
    (s : PlainState) : Type 0 where
  pub connected : s.lost t.client ≡ false
  pub going : s.ended t ≡ None
  pub awake : IsAwakeFor request t s
  pub answers : AnswersRequest shape t request reply s

-- What an act needs: all this, its thread's mark where it asks for one, and that it wakes whom it says.
pub record IsPossible (shape : Shape) (t : ThreadId) (request : Request) (reply : Reply) (woken : Option ThreadId)
    (s : PlainState) : Type 0 where
  pub connected : s.lost t.client ≡ false
  pub going : s.ended t ≡ None
  pub awake : IsAwakeFor request t s
  pub answers : AnswersRequest shape t request reply s
  pub finds : FindsMark request reply t s
  pub wakes : Wakes request reply woken s

-- the event is possible; the loss of a client where it is not lost yet
abbrev pub May : Shape → Event → PlainState → Type 0
May shape (Act t request reply woken) s = IsPossible shape t request reply woken s
May shape (Lost client) s = s.lost client ≡ false

-- the event is possible, whatever is marked
abbrev pub MayButMarks : Shape → Event → PlainState → Type 0
MayButMarks shape (Act t request reply woken) s = IsPossibleButMarks shape t request reply s
MayButMarks shape (Lost client) s = s.lost client ≡ false

-- what an event asks of marks: its thread's mark where it asks for one, and that it wakes whom it may
abbrev pub FitsMarks : Event → PlainState → Type 0
FitsMarks (Act t request reply woken) s = FindsMark request reply t s × Wakes request reply woken s
FitsMarks (Lost client) s = Unit {0}

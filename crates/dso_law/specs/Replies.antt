-- How a client answers a request whose needs are met.
use Rattle.std.specs.Prelude.{ℕ, Bool, true, false, cond, ltb, Option, Some, None, List, [], ◌∷◌, option_map, length}
use Rattle.std.specs.Prelude.{slice_get}
use Rattle.dso_base.specs.declared.journal.Entry.{Entry}
use Rattle.dso_base.specs.declared.lock.Level.{Level}
use Rattle.dso_base.specs.declared.lock.Level.TheVariants.{Read, Write}
use Rattle.dso_base.specs.declared.lock.ThreadId.{ThreadId}
use Rattle.dso_base.specs.declared.record.Body.{Body}
use Rattle.dso_base.specs.declared.request.Fault.TheVariants.{UnlockedSharedObject, WrongLock, ReadOnly, LockUpgrade}
use Rattle.dso_base.specs.declared.request.Fault.TheVariants.{IllegalMonitor}
use Rattle.dso_base.specs.declared.request.Reply.{Reply}
use Rattle.dso_base.specs.declared.request.Reply.TheVariants.{Done, Made, Seen, Val, Local, Refused}
use Rattle.dso_base.specs.declared.request.Request.{Request}
use Rattle.dso_base.specs.declared.request.Request.TheVariants.{New, Look, Get, Put, Enter, Exit, Wait, Tick, Timeout}
use Rattle.dso_base.specs.declared.request.Request.TheVariants.{Resume, Notify, NotifyAll, Print, End, Pause, Settle}
use Rattle.dso_base.specs.declared.value.ClassId.{ClassId}
use Rattle.dso_base.specs.declared.value.Value.{Value}
use Rattle.dso_base.specs.declared.value.Value.TheVariants as value
use Rattle.dso_base.specs.Shape.{guard_of}
use Rattle.dso_law.specs.Settings.{Settings}
use Rattle.dso_law.specs.Threads.{Held, or_else, own, work_of, is_private, is_local, locks_of, hold_of}
use Rattle.dso_law.specs.Copies.{copy_of, class_held, value_by_sets}
use Rattle.dso_law.specs.ClientWaiters.{client_list, is_marked}
use Rattle.dso_law.specs.Records.{next_id}
use Rattle.dso_law.specs.RequestNeeds.{hold_level}

-- the class and size of a body
abbrev pub class_of_body : Body → ClassId × ℕ
class_of_body body = (body.class, length body.values)

-- a Put in a shared object, by how its guard is held and by the locks held: done at Write, ReadOnly at Read; else
-- UnlockedSharedObject where no lock is held, and WrongLock where one is
abbrev pub put_reply : Option Level → List Held → Reply
put_reply (Some Write) holds = Done
put_reply (Some Read) holds = Refused ReadOnly
put_reply None [] = Refused UnlockedSharedObject
put_reply None (held ∷ holds) = Refused WrongLock

-- an Enter of a lock held so: an upgrade is refused
abbrev pub enter_reply : Level → Option Level → Reply
enter_reply Write (Some Read) = Refused LockUpgrade
enter_reply level hold = Done

-- Wait, Notify and NotifyAll: done where the lock is held at Write, else refused
abbrev pub monitor_reply : Option Level → Reply
monitor_reply (Some Write) = Done
monitor_reply level = Refused IllegalMonitor

-- a Timeout: true where it comes too late, since the thread is marked, else done
abbrev pub timeout_reply : Bool → Reply
timeout_reply true = Val (value.Bool true)
timeout_reply false = Done

-- the first of a list
abbrev pub first_of_list : {X : Type 0} → List X → Option X
first_of_list [] = None
first_of_list (x ∷ xs) = Some x

-- whom an act wakes: a done Notify the first of the client's list, None where it is empty; every other act nobody
abbrev pub woken_by : Request → Reply → List Entry → Option ThreadId
woken_by (New class n) reply es = None
woken_by (Look o) reply es = None
woken_by (Get o f) reply es = None
woken_by (Put o f v) reply es = None
woken_by (Enter l level) reply es = None
woken_by (Exit l) reply es = None
woken_by (Wait l) reply es = None
woken_by (Tick l) reply es = None
woken_by (Timeout l) reply es = None
woken_by (Resume l) reply es = None
woken_by (Notify l) Done es = first_of_list (client_list l es)
woken_by (Notify l) reply es = None
woken_by (NotifyAll l) reply es = None
woken_by (Print v) reply es = None
woken_by (End fault) reply es = None
woken_by Pause reply es = None
woken_by Settle reply es = None

module _ (p : Settings) where
  -- the class and size of an object: of the thread's own, else of the copy
  abbrev pub class_known : ThreadId → ℕ → List Entry → Option (ClassId × ℕ)
  class_known t o es = or_else (option_map class_of_body (own p.shape t o es)) (class_held o es)

  -- the value of a field that is not of the thread's own object: its latest done put in the open block, else the copy
  abbrev pub value_seen : ThreadId → ℕ → ℕ → List Entry → Option Value
  value_seen t o f es = value_by_sets o f (work_of p.shape t es).sets (copy_of o f es)

  -- the value of a field, if the object is the thread's own, else as said
  abbrev pub value_in : Option Body → ℕ → Option Value → Option Value
  value_in None f other = other
  value_in (Some body) f other = slice_get body.values f

  -- a Put into a field of an object of this class: done where the object is private, else by the field's guard
  abbrev pub put_answer : ThreadId → ℕ → ℕ → ClassId → List Entry → Reply
  put_answer t o f class es = cond (is_private p.shape t o es) Done
      (put_reply (hold_level (hold_of t (guard_of p.shape class o f) es)) (locks_of t es).holds)

  -- the answer to a Put where the object's class is known and has the field, else none
  abbrev pub answer_put : ThreadId → ℕ → ℕ → Option (ClassId × ℕ) → List Entry → Option Reply
  answer_put t o f None es = None
  answer_put t o f (Some class) es = cond (ltb f class.1) (Some (put_answer t o f class.0 es)) None

  -- Replies: an id in order; the class and size, and a field's value, as the thread knows them; what the thread's own
  -- locks and private objects allow of Put, Enter, Wait, Notify and NotifyAll; to Tick whether the thread is marked; to
  -- Timeout true where it is marked, else Done; Done to Exit, Resume, Print, End, Pause and Settle. None where there is
  -- no such id, object or field, as no request whose needs are met finds it.
  abbrev pub reply_of : ThreadId → Request → List Entry → Option Reply
  reply_of t (New class n) es = option_map Made (next_id es)
  reply_of t (Look o) es = option_map (λ class. Seen class.0 class.1) (class_known t o es)
  reply_of t (Get o f) es = option_map Val (value_in (own p.shape t o es) f (value_seen t o f es))
  reply_of t (Put o f v) es = answer_put t o f (class_known t o es) es
  reply_of t (Enter l level) es = Some (cond (is_local p.shape t l es) Local
      (enter_reply level (hold_level (hold_of t l es))))
  reply_of t (Exit l) es = Some Done
  reply_of t (Wait l) es = Some (monitor_reply (hold_level (hold_of t l es)))
  reply_of t (Tick l) es = Some (Val (value.Bool (is_marked t es)))
  reply_of t (Timeout l) es = Some (timeout_reply (is_marked t es))
  reply_of t (Resume l) es = Some Done
  reply_of t (Notify l) es = Some (monitor_reply (hold_level (hold_of t l es)))
  reply_of t (NotifyAll l) es = Some (monitor_reply (hold_level (hold_of t l es)))
  reply_of t (Print v) es = Some Done
  reply_of t (End fault) es = Some Done
  reply_of t Pause es = Some Done
  reply_of t Settle es = Some Done

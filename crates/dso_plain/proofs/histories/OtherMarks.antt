-- From a state with other marks: no reply depends on them, and an act bears on marks alone, whomever it wakes.
use Rattle.std.proofs.Common.{ℕ, ◌≡◌, refl, Bool, true, false, Option, Some, None}
use Rattle.dso_base.specs.declared.lock.LockName.{LockName}
use Rattle.dso_base.specs.declared.lock.LockName.TheVariants.{Mon, Name}
use Rattle.dso_base.specs.declared.lock.ThreadId.{ThreadId}
use Rattle.dso_base.specs.declared.request.Fault.TheVariants.{UnlockedSharedObject, WrongLock, ReadOnly, LockUpgrade, IllegalMonitor}
use Rattle.dso_base.specs.declared.request.Reply.{Reply}
use Rattle.dso_base.specs.declared.request.Reply.TheVariants.{Done, Made, Seen, Val, Local, Refused}
use Rattle.dso_base.specs.declared.request.Request.{Request}
use Rattle.dso_base.specs.declared.request.Request.TheVariants.{New, Look, Get, Put, Enter, Exit, Wait, Tick, Timeout, Resume, Notify, NotifyAll, Print, End, Pause, Settle}
use Rattle.dso_base.specs.declared.shape.Shape.{Shape}
use Rattle.dso_base.specs.declared.value.Value.{Value}
use Rattle.dso_base.specs.declared.value.Value.TheVariants as value
use Rattle.dso_plain.specs.State.{Hold, PlainState, is_shared, hold_on_guard}
use Rattle.dso_plain.specs.Possible.{AnswersRequest, IsPrivateMonitor, IsClusterLock, IsAwakeFor}
use Rattle.dso_plain.specs.After.{change_of, apply, put, read, read_shared, notifies}
use Rattle.dso_plain.specs.SameActs.{with_marks}

module _ (shape : Shape) (t : ThreadId) (s : PlainState) (marks : LockName × ThreadId → Bool) where
  -- with other marks a private monitor is one, and a cluster's lock
  private_monitor_marked : (l : LockName) → IsPrivateMonitor t l s → IsPrivateMonitor t l (with_marks marks s)
  private_monitor_marked (Mon o) a = a
  private_monitor_marked (Name n) a = absurd a

  -- and a lock of the cluster
  cluster_lock_marked : (l : LockName) → IsClusterLock l s → IsClusterLock l (with_marks marks s)
  cluster_lock_marked (Mon o) a = a
  cluster_lock_marked (Name n) a = tt

  -- no reply depends on marks
  pub answers_marked : (request : Request) (reply : Reply) → AnswersRequest shape t request reply s → AnswersRequest shape t request reply (with_marks marks s)
  answers_marked (Tick l) (Val (value.Bool told)) a = a
  answers_marked (Timeout l) Done a = a
  answers_marked (Timeout l) (Val (value.Bool true)) a = a
  answers_marked (Resume l) Done a = a
  answers_marked (New class k) (Made o) a = a
  answers_marked (Look o) (Seen class k) a = a
  answers_marked (Get o f) (Val v) a = a
  answers_marked (Put o f v) Done a = a
  answers_marked (Put o f v) (Refused UnlockedSharedObject) a = a
  answers_marked (Put o f v) (Refused ReadOnly) a = a
  answers_marked (Put o f v) (Refused WrongLock) a = a
  answers_marked (Put o f v) reply a = absurd a.1
  answers_marked (Enter l level) Local a = private_monitor_marked l a
  answers_marked (Enter l level) (Refused LockUpgrade) a = a
  answers_marked (Enter l level) Done a = (cluster_lock_marked l a.0, a.1, a.2)
  answers_marked (Exit l) Done a = a
  answers_marked (Wait l) Done a = a
  answers_marked (Wait l) (Refused IllegalMonitor) a = a
  answers_marked (Notify l) Done a = a
  answers_marked (Notify l) (Refused IllegalMonitor) a = a
  answers_marked (NotifyAll l) Done a = a
  answers_marked (NotifyAll l) (Refused IllegalMonitor) a = a
  answers_marked (Print v) reply a = a
  answers_marked (End fault) Done a = a
  answers_marked Pause reply a = a
  answers_marked Settle reply a = a
  answers_marked request reply a = absurd a

  -- who is awake does not depend on marks
  pub awake_marked : (request : Request) → IsAwakeFor request t s → IsAwakeFor request t (with_marks marks s)
  awake_marked (Tick l) a = tt
  awake_marked (Timeout l) a = tt
  awake_marked (Resume l) a = tt
  awake_marked request a = a

  -- a put does not read marks
  put_marked : (o f : ℕ) (v : Value) (b : Bool) (k : LockName × ThreadId → Bool) → with_marks k (apply (put t o f v b (with_marks marks s)) (with_marks marks s)) ≡ with_marks k (apply (put t o f v b s) s)
  put_marked o f v true k = refl
  put_marked o f v false k = refl

  -- nor does a read of a shared object
  read_shared_marked : (o f : ℕ) (hold : Option Hold) (k : LockName × ThreadId → Bool) → with_marks k (apply (read_shared t o f hold (with_marks marks s)) (with_marks marks s)) ≡ with_marks k (apply (read_shared t o f hold s) s)
  read_shared_marked o f None k = refl
  read_shared_marked o f (Some hold) k = refl

  -- nor any read
  read_marked : (o f : ℕ) (b : Bool) (k : LockName × ThreadId → Bool) → with_marks k (apply (read shape t o f b (with_marks marks s)) (with_marks marks s)) ≡ with_marks k (apply (read shape t o f b s) s)
  read_marked o f true k = read_shared_marked o f (hold_on_guard shape t o f s) k
  read_marked o f false k = refl

  -- notifications differ in marks alone
  notify_marked : (l : LockName) (woken woken' : Option ThreadId) (k : LockName × ThreadId → Bool) → with_marks k (apply (notifies l woken') (with_marks marks s)) ≡ with_marks k (apply (notifies l woken) s)
  notify_marked l None None k = refl
  notify_marked l None (Some w) k = refl
  notify_marked l (Some w) None k = refl
  notify_marked l (Some w) (Some v) k = refl

  -- marks, and whom an act wakes, bear on marks alone
  pub writes_marked : (request : Request) (reply : Reply) (woken woken' : Option ThreadId) (k : LockName × ThreadId → Bool) → with_marks k (apply (change_of shape t request reply woken' (with_marks marks s)) (with_marks marks s)) ≡ with_marks k (apply (change_of shape t request reply woken s) s)
  writes_marked (New class n) (Made o) woken woken' k = refl
  writes_marked (Get o f) (Val v) woken woken' k = read_marked o f (is_shared (s.objects o)) k
  writes_marked (Put o f v) Done woken woken' k = put_marked o f v (is_shared (s.objects o)) k
  writes_marked (Enter l level) Done woken woken' k = refl
  writes_marked (Exit l) Done woken woken' k = refl
  writes_marked (Wait l) Done woken woken' k = refl
  writes_marked (Timeout l) Done woken woken' k = refl
  writes_marked (Resume l) Done woken woken' k = refl
  writes_marked (Notify l) Done woken woken' k = notify_marked l woken woken' k
  writes_marked (NotifyAll l) Done woken woken' k = refl
  writes_marked (Print v) Done woken woken' k = refl
  writes_marked (End fault) Done woken woken' k = refl
  writes_marked request reply woken woken' k = refl

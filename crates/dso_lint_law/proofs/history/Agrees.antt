-- The view of a thread and the plain state: what agrees, and what follows for a request that is safe.
use Rattle.std.proofs.Common.{◌≡◌, inl, inr, refl, ℕ, Bool, true, false, Option, None, Some, subst, sym, ap, ◌∙◌}
use Rattle.dso_base.specs.declared.lock.Level.{Level}
use Rattle.dso_base.specs.declared.lock.Level.TheVariants.{Read, Write}
use Rattle.dso_base.specs.declared.lock.LockName.{LockName}
use Rattle.dso_base.specs.declared.lock.LockName.TheVariants.{Mon, Name}
use Rattle.dso_base.specs.declared.lock.ThreadId.{ThreadId}
use Rattle.dso_base.specs.declared.request.Fault.{Fault}
use Rattle.dso_base.specs.declared.request.Fault.TheVariants.{UnlockedSharedObject, WrongLock, ReadOnly, LockUpgrade, IllegalMonitor}
use Rattle.dso_base.specs.declared.request.Reply.{Reply}
use Rattle.dso_base.specs.declared.request.Reply.TheVariants.{Done, Made, Seen, Val, Local, Refused}
use Rattle.dso_base.specs.declared.request.Request.{Request}
use Rattle.dso_base.specs.declared.request.Request.TheVariants.{New, Look, Get, Put, Enter, Exit, Wait, Tick, Timeout, Resume, Notify, NotifyAll, Print, End, Pause, Settle}
use Rattle.dso_base.specs.declared.shape.Shape.{Shape}
use Rattle.dso_base.specs.declared.value.ClassId.{ClassId}
use Rattle.dso_base.specs.declared.value.Value.{Value}
use Rattle.dso_base.specs.Shape.{guard_of}
use Rattle.dso_base.specs.Following.{IsListed}
use Rattle.dso_plain.specs.State.{Object, Hold, PlainState, IsPrivate, IsShared, is_shared, level_of, guard_in, guard_of_object, hold_on_guard}
use Rattle.dso_plain.specs.Possible.{AnswersRequest, IsOf}
use Rattle.dso_plain.specs.After as plain
use Rattle.dso_plain.proofs.independence.LeavesOthers.{private_or_shared}
use Rattle.dso_lint_law.specs.GuardedHistories.{RefusesForLocks}
use Rattle.dso_lint_law.proofs.parts.Views.{View, Guarded, Safe, EntersSafely, WaitsHeld, SeesSame, LocalIsOwn, MayCome}

-- the class of an object that is there
abbrev pub class_in : Option Object → Option ClassId
class_in None = None
class_in (Some object) = Some object.class

-- The view of the thread tells nothing that isn't so in the state.
pub record Agrees (t : ThreadId) (g : View) (s : PlainState) : Type 0 where
  pub holds : (l : LockName) → g.holds l ≡ s.monitors (l, t)
  pub asleep : (l : LockName) → g.asleep l ≡ s.asleep (l, t)
  pub class : (o : ℕ) (class : ClassId) → g.class o ≡ Some class → class_in (s.objects o) ≡ Some class
  pub shared : (o : ℕ) → g.shared o ≡ true → IsShared o s
  pub own : (o : ℕ) → g.own o ≡ true → IsPrivate t o s

-- the guard is that of the class
guard_is : (shape : Shape) (object : Option Object) (class : ClassId) (o f : ℕ) → class_in object ≡ Some class → guard_of_object shape object o f ≡ guard_of shape class o f
guard_is shape None class o f is = absurd (cc is)
guard_is shape (Some object) class o f is =
    let same : object.class ≡ class = cc is in
    ap (λ c. guard_of shape c o f) same

-- an object is of the class that was seen
class_seen : (object : Option Object) (class other : ClassId) (n : ℕ) → IsOf class n object → class_in object ≡ Some other → other ≡ class
class_seen None class other n is same = absurd is
class_seen (Some object) class other n is same =
    let its : object.class ≡ other = cc same in
    sym its ∙ is.0

module _ (shape : Shape) (t : ThreadId) (g : View) (s : PlainState) (agrees : Agrees t g s) where
  -- ---- what may come

  waits_held : (q : Request) (r : Reply) → AnswersRequest shape t q r s → WaitsHeld g q r
  waits_held (Wait l) Done answers = ap level_of (agrees.holds l) ∙ answers
  waits_held q r answers = tt

  sees_same : (q : Request) (r : Reply) → AnswersRequest shape t q r s → SeesSame g q r
  sees_same (Look o) (Seen class n) answers = λ other seen. class_seen (s.objects o) class other n answers.1 (agrees.class o other seen)
  sees_same q r answers = tt

  local_own : (q : Request) (r : Reply) → AnswersRequest shape t q r s → LocalIsOwn g q r
  local_own (Enter (Name n) level) Local answers = answers
  local_own (Enter (Mon o) level) Local answers = λ shared. private_or_shared t (s.objects o) answers (agrees.shared o shared)
  local_own q r answers = tt

  -- a listed reply that is possible may come by the view
  pub may_come : (q : Request) (r : Reply) → IsListed q r → AnswersRequest shape t q r s → MayCome g q r
  may_come q r listed answers = record { listed = listed; waits = waits_held q r answers; sees = sees_same q r answers; own = local_own q r answers }

  -- ---- what is safe

  -- the hold on the guard of a field of a shared object that the thread may touch
  guard_held : (o f : ℕ) (write : Bool) → Guarded shape g o f write → IsShared o s → (hold : Hold) × (hold_on_guard shape t o f s ≡ Some hold) × (write ≡ true → hold.level ≡ Write)
  guard_held o f write (inl own) common = private_or_shared t (s.objects o) (agrees.own o own) common
  guard_held o f write (inr (class, seen, held)) common = (
    held.hold,
    subst (λ l. s.monitors (l, t) ≡ Some held.hold) (sym (guard_is shape (s.objects o) class o f (agrees.class o class seen))) (sym (agrees.holds (guard_of shape class o f)) ∙ held.there),
    held.allows,
  )

  -- a guarded read counts nothing
  read_guarded : (o f : ℕ) (b : Bool) → is_shared (s.objects o) ≡ b → Guarded shape g o f false → plain.Change.unguarded (plain.read shape t o f b s) ≡ false
  read_guarded o f false is guarded = refl
  read_guarded o f true is guarded =
      let held = guard_held o f false guarded is in
      ap (λ hold. plain.Change.unguarded (plain.read_shared t o f hold s)) held.1

  -- a guarded write isn't refused
  put_accepted : (o f : ℕ) (v : Value) (fault : Fault) → Guarded shape g o f true → AnswersRequest shape t (Put o f v) (Refused fault) s → ⊥
  put_accepted o f v UnlockedSharedObject guarded answers =
      let held = guard_held o f true guarded answers.1.0 in
      cc (sym held.1 ∙ answers.1.1 (guard_in shape s o f))
  put_accepted o f v ReadOnly guarded answers =
      let held = guard_held o f true guarded answers.1.0 in
      let at_read : Some held.0.level ≡ Some Read = sym (ap level_of held.1) ∙ answers.1.1 in
      cc (sym (ap Some (held.2 refl)) ∙ at_read)
  put_accepted o f v WrongLock guarded answers =
      let held = guard_held o f true guarded answers.1.0 in
      cc (sym held.1 ∙ answers.1.2)
  put_accepted o f v fault guarded answers = absurd answers.1

  -- an entry that is safe is no upgrade
  enter_accepted : (l : LockName) (level : Level) (fault : Fault) → EntersSafely g l level → AnswersRequest shape t (Enter l level) (Refused fault) s → ⊥
  enter_accepted l Write LockUpgrade free answers = free (ap level_of (agrees.holds l) ∙ answers)
  enter_accepted l Read LockUpgrade free answers = answers
  enter_accepted l level fault free answers = absurd answers

  -- What is safe isn't refused for want of a lock.
  pub accepted : (q : Request) (r : Reply) → Safe shape g q → AnswersRequest shape t q r s → RefusesForLocks r → ⊥
  accepted (Put o f v) (Refused fault) safe answers refuses = put_accepted o f v fault safe answers
  accepted (Enter l level) (Refused fault) safe answers refuses = enter_accepted l level fault safe answers
  accepted (Wait l) (Refused IllegalMonitor) safe answers refuses = refuses
  accepted (Notify l) (Refused IllegalMonitor) safe answers refuses = refuses
  accepted (NotifyAll l) (Refused IllegalMonitor) safe answers refuses = refuses
  accepted (New class n) (Refused fault) safe answers refuses = absurd answers
  accepted (Look o) (Refused fault) safe answers refuses = absurd answers
  accepted (Get o f) (Refused fault) safe answers refuses = absurd answers
  accepted (Exit l) (Refused fault) safe answers refuses = absurd answers
  accepted (Wait l) (Refused fault) safe answers refuses = absurd answers
  accepted (Tick l) (Refused fault) safe answers refuses = absurd answers
  accepted (Timeout l) (Refused fault) safe answers refuses = absurd answers
  accepted (Resume l) (Refused fault) safe answers refuses = absurd answers
  accepted (Notify l) (Refused fault) safe answers refuses = absurd answers
  accepted (NotifyAll l) (Refused fault) safe answers refuses = absurd answers
  accepted (Print v) (Refused fault) safe answers refuses = absurd answers
  accepted (End end) (Refused fault) safe answers refuses = absurd answers
  accepted Pause (Refused fault) safe answers refuses = absurd answers
  accepted Settle (Refused fault) safe answers refuses = absurd answers
  accepted q r safe answers refuses = absurd refuses

  -- nor does it count as an unguarded read
  pub uncounted : (q : Request) (r : Reply) (woken : Option ThreadId) → Safe shape g q → plain.Change.unguarded (plain.change_of shape t q r woken s) ≡ false
  uncounted (Get o f) (Val v) woken safe = read_guarded o f (is_shared (s.objects o)) refl safe
  uncounted (New class n) (Made o) woken safe = refl
  uncounted (Put o f v) Done woken safe = put_uncounted o f v (is_shared (s.objects o))
    where
      put_uncounted : (o f : ℕ) (v : Value) (b : Bool) → plain.Change.unguarded (plain.put t o f v b s) ≡ false
      put_uncounted o f v true = refl
      put_uncounted o f v false = refl
  uncounted (Enter l level) Done woken safe = refl
  uncounted (Exit l) Done woken safe = refl
  uncounted (Wait l) Done woken safe = refl
  uncounted (Timeout l) Done woken safe = refl
  uncounted (Resume l) Done woken safe = refl
  uncounted (Notify l) Done None safe = refl
  uncounted (Notify l) Done (Some w) safe = refl
  uncounted (NotifyAll l) Done woken safe = refl
  uncounted (Print v) Done woken safe = refl
  uncounted (End fault) Done woken safe = refl
  uncounted q r woken safe = refl

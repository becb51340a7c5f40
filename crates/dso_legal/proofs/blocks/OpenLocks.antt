-- One act in an open block: it leaves the thread's locks as its state has them, keeps each hold at its level, and holds
-- what it touches.
use Rattle.std.proofs.Common.{ℕ, ◌-◌, ◌≡◌, ◌≢◌, inl, inr, refl, sym, ◌∙◌, ap, subst, Bool, true, false, cond, eqb, ◌&&◌, List}
use Rattle.std.specs.Prelude.{Option, Some, None}
use Rattle.dso_base.specs.declared.lock.Level.{Level}
use Rattle.dso_base.specs.declared.lock.Level.TheVariants.{Read, Write}
use Rattle.dso_base.specs.declared.lock.LockName.{LockName}
use Rattle.dso_base.specs.declared.lock.ThreadId.{ThreadId}
use Rattle.dso_base.specs.declared.request.Reply.{Reply}
use Rattle.dso_base.specs.declared.request.Reply.TheVariants.{Done, Made, Val}
use Rattle.dso_base.specs.declared.request.Request.{Request}
use Rattle.dso_base.specs.declared.request.Request.TheVariants.{New, Get, Put, Enter, Exit, Wait, Timeout, Resume, Notify, NotifyAll, Print, End}
use Rattle.dso_base.specs.declared.shape.Shape.{Shape}
use Rattle.dso_base.specs.declared.value.Value.{Value}
use Rattle.dso_base.specs.Following.{is_thread}
use Rattle.dso_plain.specs.KeyTests.{is_lock}
use Rattle.dso_lookup.specs.Maps.{or_old}
use Rattle.dso_plain.specs.State.{Hold, PlainState, level_of, is_shared, hold_on_guard}
use Rattle.dso_plain.specs.Possible.{AnswersRequest, IsUpgrade}
use Rattle.dso_plain.specs.After as plain
use Rattle.dso_plain.specs.After.{entered, exited, change_of, apply, read, read_shared, put, notifies, notifies_all}
use Rattle.dso_plain.specs.Touches.{ActTouches, Takes}
use Rattle.dso_plain.proofs.keys.SameKeys.{same_lock, thread_self}
use Rattle.dso_law.specs.RequestNeeds.{is_enough}
use Rattle.dso_law.specs.Threads.{Held, Waiting, Locks, hold_in, with_hold, resumed, locks_by, exit_ending, ending_by}
use Rattle.dso_law.proofs.client.ClientLaws.{holds_after}
use Rattle.dso_legal.specs.Works.{HaveLocks, wait_count}
use Rattle.dso_legal.proofs.leases.Queues.{lock_self}

-- the lock is held at this level or a higher one
abbrev pub IsHeldFor : LockName → Level → Locks → Type 0
IsHeldFor l x locks = is_enough x (level_of (hold_in l locks.holds)) ≡ true

-- the lock is held at this level
abbrev pub IsHeldAt : LockName → Level → Locks → Type 0
IsHeldAt l x locks = level_of (hold_in l locks.holds) ≡ Some x

-- a level is enough for itself
pub enough_self : (x : Level) → is_enough x (Some x) ≡ true
enough_self Read = refl
enough_self Write = refl

-- what is enough for a level is some level
pub enough_some : (x : Level) (o : Option Level) → is_enough x o ≡ true → (y : Level) × (o ≡ Some y)
enough_some x None e = absurd (cc e)
enough_some x (Some y) e = (y, refl)

-- what is held at a level is held for it
pub held_for : (l : LockName) (x : Level) (locks : Locks) → IsHeldAt l x locks → IsHeldFor l x locks
held_for l x locks e = ap (is_enough x) e ∙ enough_self x

-- holds that keep their levels are still enough
pub still_for : (l : LockName) (x : Level) (locks locks' : Locks) → ((y : Level) → IsHeldAt l y locks → IsHeldAt l y locks') → IsHeldFor l x locks → IsHeldFor l x locks'
still_for l x locks locks' keeps e =
    let some = enough_some x (level_of (hold_in l locks.holds)) e in
    ap (is_enough x) (keeps some.0 some.1) ∙ ap (is_enough x) (sym some.1) ∙ e

-- a choice by a test and by a test that holds is one by the test alone
and_true : {X : Type 0} (a b : Bool) (p q : X) → b ≡ true → cond (a && b) p q ≡ cond a p q
and_true true b p q e = ap (λ b. cond b p q) e
and_true false b p q e = refl

-- what is written at one lock of the thread is what its locks have there
at_lock : {X : Type 0} (b : Bool) (new old have : X) → old ≡ have → or_old (cond b (Some new) None) old ≡ cond b new have
at_lock true new old have e = refl
at_lock false new old have e = e

-- a hold that is entered again keeps its level
pub enter_keeps : (level x : Level) (hold : Option Hold) → level_of hold ≡ Some x → level_of (entered level hold) ≡ Some x
enter_keeps level x None e = absurd (cc e)
enter_keeps level x (Some hold) e = e

-- a hold that is entered is enough, where that is no upgrade
enter_enough : (level : Level) (hold : Option Hold) → (IsUpgrade level hold → ⊥) → is_enough level (level_of (entered level hold)) ≡ true
enter_enough level None ok = enough_self level
enter_enough Read (Some hold) ok = refl
enter_enough Write (Some hold) ok = by hold.level refl
  where
    by : (y : Level) → hold.level ≡ y → is_enough Write (Some hold.level) ≡ true
    by Read e = absurd (ok (ap Some e))
    by Write e = ap (λ z. is_enough Write (Some z)) e

-- an exit that is no ending keeps the hold's level
pub exit_keeps : (l : LockName) (x : Level) (hold : Option Hold) → exit_ending l (exited hold) ≡ None → level_of hold ≡ Some x → level_of (exited hold) ≡ Some x
exit_keeps l x None none e = absurd (cc e)
exit_keeps l x (Some hold) none e = by (eqb hold.count 1) none
  where
    by : (b : Bool) → exit_ending l (cond b None (Some (record { level = hold.level; count = hold.count - 1 }))) ≡ None → level_of (cond b None (Some (record { level = hold.level; count = hold.count - 1 }))) ≡ Some x
    by true none = absurd (cc none)
    by false none = e

-- a hold is set to one of the same level
pub set_keeps : (k l : LockName) (x : Level) (o : Option Hold) (holds : List Held) → (level_of (hold_in k holds) ≡ Some x → level_of o ≡ Some x) → level_of (hold_in l holds) ≡ Some x → level_of (hold_in l (with_hold k o holds)) ≡ Some x
set_keeps k l x o holds keeps e = ap level_of (holds_after k l o holds) ∙ by (is_lock k l) refl
  where
    by : (b : Bool) → is_lock k l ≡ b → level_of (cond b o (hold_in l holds)) ≡ Some x
    by true is = keeps (subst (λ n. level_of (hold_in n holds) ≡ Some x) (same_lock k l is) e)
    by false is = e

-- the lock just set is held so
pub set_there : (k : LockName) (o : Option Hold) (holds : List Held) → hold_in k (with_hold k o holds) ≡ o
set_there k o holds = holds_after k k o holds ∙ ap (λ b. cond b o (hold_in k holds)) (lock_self k)

-- a wait that is there on a lock is the thread's, and has its count
waits_there : (k : LockName) (waiting : Waiting) → wait_count k (Some waiting) ≢ None → (is_lock k waiting.lock ≡ true) × (wait_count k (Some waiting) ≡ Some waiting.count)
waits_there k waiting ne = by (is_lock k waiting.lock) refl
  where
    by : (b : Bool) → is_lock k waiting.lock ≡ b → (is_lock k waiting.lock ≡ true) × (wait_count k (Some waiting) ≡ Some waiting.count)
    by true e = (e, ap (λ b. cond b (Some waiting.count) None) e)
    by false e = absurd (ne (ap (λ b. cond b (Some waiting.count) None) e))

-- away from its lock a wait is not there
waits_elsewhere : (k l : LockName) (waiting : Waiting) → waiting.lock ≡ k → (b : Bool) → is_lock k l ≡ b → or_old (cond b (Some None) None) (wait_count l (Some waiting)) ≡ None
waits_elsewhere k l waiting same true e = refl
waits_elsewhere k l waiting same false e = by (is_lock l waiting.lock) refl
  where
    by : (b : Bool) → is_lock l waiting.lock ≡ b → cond b (Some waiting.count) None ≡ None
    by true f = absurd (cc (sym (lock_self k) ∙ ap (λ n. is_lock k n) (sym same ∙ same_lock l waiting.lock f) ∙ e))
    by false f = refl

module _ (shape : Shape) (t : ThreadId) (s : PlainState) (locks : Locks) (have : HaveLocks t locks s) where
  -- a state with the same holds and waits of the thread
  left : (r : PlainState) → ((l : LockName) → r.monitors (l, t) ≡ s.monitors (l, t)) → ((l : LockName) → r.asleep (l, t) ≡ s.asleep (l, t)) → HaveLocks t locks r
  left r monitors asleep = record { holds = λ l. monitors l ∙ have.holds l; waits = λ l. asleep l ∙ have.waits l }

  -- one hold set in both
  set_have : (k : LockName) (new old : Option Hold) → new ≡ old → (l : LockName) → or_old (cond (is_lock k l && is_thread t t) (Some new) None) (s.monitors (l, t)) ≡ hold_in l (with_hold k old locks.holds)
  set_have k new old same l = ap (λ o. or_old o (s.monitors (l, t))) (and_true (is_lock k l) (is_thread t t) (Some new) None (thread_self t))
      ∙ at_lock (is_lock k l) new (s.monitors (l, t)) (hold_in l locks.holds) (have.holds l)
      ∙ ap (λ o. cond (is_lock k l) o (hold_in l locks.holds)) same
      ∙ sym (holds_after k l old locks.holds)

  read_have : (o f : ℕ) (b : Bool) → HaveLocks t locks (apply (read shape t o f b s) s)
  read_have o f true = by (hold_on_guard shape t o f s)
    where
      by : (hold : Option Hold) → HaveLocks t locks (apply (read_shared t o f hold s) s)
      by None = left (apply (read_shared t o f None s) s) (λ l. refl) (λ l. refl)
      by (Some hold) = left (apply (read_shared t o f (Some hold) s) s) (λ l. refl) (λ l. refl)
  read_have o f false = left (apply (read shape t o f false s) s) (λ l. refl) (λ l. refl)

  put_have : (o f : ℕ) (v : Value) (b : Bool) → HaveLocks t locks (apply (put t o f v b s) s)
  put_have o f v true = left (apply (put t o f v true s) s) (λ l. refl) (λ l. refl)
  put_have o f v false = left (apply (put t o f v false s) s) (λ l. refl) (λ l. refl)

  notify_have : (k : LockName) (woken : Option ThreadId) → HaveLocks t locks (apply (notifies k woken) s)
  notify_have k None = left (apply (notifies k None) s) (λ l. refl) (λ l. refl)
  notify_have k (Some w) = left (apply (notifies k (Some w)) s) (λ l. refl) (λ l. refl)

  resume_have : (k : LockName) (waiting : Option Waiting) → locks.waiting ≡ waiting → s.asleep (k, t) ≢ None → HaveLocks t (resumed k waiting locks) (apply (plain.resumes t k s) s)
  resume_have k None none ne = absurd (ne (have.waits k ∙ ap (wait_count k) none))
  resume_have k (Some waiting) is ne =
      let count : s.asleep (k, t) ≡ wait_count k (Some waiting) = have.waits k ∙ ap (wait_count k) is in
      let there = waits_there k waiting (λ e. ne (count ∙ e)) in
      record {
        holds = set_have k (plain.resumed (s.asleep (k, t))) (Some (record { level = Write; count = waiting.count })) (ap plain.resumed (count ∙ there.1));
        waits = λ l. ap (λ o. or_old o (s.asleep (l, t))) (and_true (is_lock k l) (is_thread t t) (Some None) None (thread_self t))
            ∙ ap (λ o. or_old (cond (is_lock k l) (Some None) None) o) (have.waits l ∙ ap (wait_count l) is)
            ∙ waits_elsewhere k l waiting (same_lock k waiting.lock there.0) (is_lock k l) refl;
      }

  -- An act that is no ending leaves the thread's locks as its state has them.
  pub act_have : (request : Request) (reply : Reply) (woken : Option ThreadId) → AnswersRequest shape t request reply s → ending_by request reply locks ≡ None
      → HaveLocks t (locks_by request reply locks) (apply (change_of shape t request reply woken s) s)
  act_have (New class n) (Made o) woken a none = left (apply (change_of shape t (New class n) (Made o) woken s) s) (λ l. refl) (λ l. refl)
  act_have (Get o f) (Val v) woken a none = read_have o f (is_shared (s.objects o))
  act_have (Put o f v) Done woken a none = put_have o f v (is_shared (s.objects o))
  act_have (Enter k level) Done woken a none = record {
    holds = set_have k (entered level (s.monitors (k, t))) (entered level (hold_in k locks.holds)) (ap (entered level) (have.holds k));
    waits = have.waits;
  }
  act_have (Exit k) Done woken a none = record {
    holds = set_have k (exited (s.monitors (k, t))) (exited (hold_in k locks.holds)) (ap exited (have.holds k));
    waits = have.waits;
  }
  act_have (Wait k) Done woken a none = absurd (cc none)
  act_have (Timeout k) Done woken a none = absurd (cc none)
  act_have (Resume k) Done woken a none = resume_have k locks.waiting refl a.0
  act_have (Notify k) Done woken a none = notify_have k woken
  act_have (NotifyAll k) Done woken a none = left (apply (notifies_all k s) s) (λ l. refl) (λ l. refl)
  act_have (Print v) Done woken a none = left (apply (change_of shape t (Print v) Done woken s) s) (λ l. refl) (λ l. refl)
  act_have (End fault) Done woken a none = left (apply (change_of shape t (End fault) Done woken s) s) (λ l. refl) (λ l. refl)
  act_have request reply woken a none = left (apply plain.nothing s) (λ l. refl) (λ l. refl)

  resume_keeps : (k l : LockName) (x : Level) (waiting : Option Waiting) → hold_in k locks.holds ≡ None → IsHeldAt l x locks → IsHeldAt l x (resumed k waiting locks)
  resume_keeps k l x None free e = e
  resume_keeps k l x (Some waiting) free e = set_keeps k l x (Some (record { level = Write; count = waiting.count })) locks.holds (λ held. absurd (cc (sym (ap level_of free) ∙ held))) e

  -- It keeps each hold at its level.
  pub act_keeps : (request : Request) (reply : Reply) → AnswersRequest shape t request reply s → ending_by request reply locks ≡ None → (l : LockName) (x : Level) → IsHeldAt l x locks → IsHeldAt l x (locks_by request reply locks)
  act_keeps (Enter k level) Done a none l x e = set_keeps k l x (entered level (hold_in k locks.holds)) locks.holds (enter_keeps level x (hold_in k locks.holds)) e
  act_keeps (Exit k) Done a none l x e = set_keeps k l x (exited (hold_in k locks.holds)) locks.holds (exit_keeps k x (hold_in k locks.holds) none) e
  act_keeps (Wait k) Done a none l x e = absurd (cc none)
  act_keeps (Resume k) Done a none l x e = resume_keeps k l x locks.waiting (sym (have.holds k) ∙ a.1 t) e
  act_keeps request reply a none l x e = e

  resume_takes : (k : LockName) (waiting : Option Waiting) → locks.waiting ≡ waiting → s.asleep (k, t) ≢ None → IsHeldFor k Write (resumed k waiting locks)
  resume_takes k None none ne = absurd (ne (have.waits k ∙ ap (wait_count k) none))
  resume_takes k (Some waiting) is ne = ap (λ o. is_enough Write (level_of o)) (set_there k (Some (record { level = Write; count = waiting.count })) locks.holds)

  -- It holds what it takes.
  act_takes : (request : Request) (reply : Reply) → AnswersRequest shape t request reply s → (l : LockName) (x : Level) → Takes request reply l x → IsHeldFor l x (locks_by request reply locks)
  act_takes (Enter k level) Done a l x takes = subst (λ n. IsHeldFor n x (locks_by (Enter k level) Done locks)) (sym takes.0) (subst (λ y. IsHeldFor k y (locks_by (Enter k level) Done locks)) (sym takes.1)
      (ap (λ o. is_enough level (level_of o)) (set_there k (entered level (hold_in k locks.holds)) locks.holds)
      ∙ enter_enough level (hold_in k locks.holds) (λ up. a.1 (subst (λ hold. IsUpgrade level hold) (sym (have.holds k)) up))))
  act_takes (Resume k) Done a l x takes = subst (λ n. IsHeldFor n x (locks_by (Resume k) Done locks)) (sym takes.0) (subst (λ y. IsHeldFor k y (locks_by (Resume k) Done locks)) (sym takes.1)
      (resume_takes k locks.waiting refl a.0))
  act_takes request reply a l x takes = absurd takes

  -- What an act that is no ending touches is held after it.
  pub act_touched : (request : Request) (reply : Reply) → AnswersRequest shape t request reply s → ending_by request reply locks ≡ None → (l : LockName) (x : Level) → ActTouches t request reply s l x → IsHeldFor l x (locks_by request reply locks)
  act_touched request reply a none l x (inl held) = held_for l x (locks_by request reply locks) (act_keeps request reply a none l x (sym (ap level_of (have.holds l)) ∙ held))
  act_touched request reply a none l x (inr takes) = act_takes request reply a l x takes

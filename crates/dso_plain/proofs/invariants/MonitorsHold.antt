-- What holds of monitors and waits in every state that is reached.
use Rattle.std.proofs.Common.{ℕ, ◌-◌, ◌≤◌, ◌≡◌, ◌≢◌, ◌⊎◌, inl, inr, refl, sym, ◌∙◌, ap, subst, Bool, true, false, cond, eqb, ◌&&◌, is_some, Option, Some, None, List, [], ◌∷◌, arith}
use Rattle.std.proofs.lemmas.Bool.{eqb-false}
use Rattle.dso_base.specs.declared.lock.Level.{Level}
use Rattle.dso_base.specs.declared.lock.Level.TheVariants.{Read, Write}
use Rattle.dso_base.specs.declared.lock.LockName.{LockName}
use Rattle.dso_base.specs.declared.lock.ThreadId.{ThreadId}
use Rattle.dso_base.specs.declared.request.Event.{Event}
use Rattle.dso_base.specs.declared.request.Event.TheVariants.{Act, Lost}
use Rattle.dso_base.specs.declared.request.Fault.{Fault}
use Rattle.dso_base.specs.declared.request.Reply.{Reply}
use Rattle.dso_base.specs.declared.request.Reply.TheVariants.{Done, Made, Val}
use Rattle.dso_base.specs.declared.request.Request.{Request}
use Rattle.dso_base.specs.declared.request.Request.TheVariants.{New, Get, Put, Enter, Exit, Wait, Timeout, Resume, Notify, NotifyAll, Print, End}
use Rattle.dso_base.specs.declared.shape.Shape.{Shape}
use Rattle.dso_base.specs.declared.value.Value.{Value}
use Rattle.dso_base.specs.Following.{is_thread}
use Rattle.dso_plain.specs.KeyTests.{is_lock, is_place}
use Rattle.dso_lookup.specs.Maps.{writes, or_old, written}
use Rattle.dso_plain.specs.State.{Hold, PlainState, opening, is_shared, level_of, hold_on_guard}
use Rattle.dso_plain.specs.Possible.{IsPossible, May, IsCompatible, NoConflict}
use Rattle.dso_plain.specs.After.{change_of, apply, after, put, read, read_shared, notifies, notifies_all, waits, loses, entered, exited, count_of, resumed}
use Rattle.dso_plain.specs.History.{Runs, end_of, last_state}
use Rattle.dso_plain.specs.StepInvariants.{MonitorInvariantOf, HasLeft, MonitorInvariant}
use Rattle.dso_plain.specs.Monitors.{HasNoPart, KeepsMonitors}
use Rattle.dso_plain.proofs.keys.SameKeys.{same_thread, same_place}
use Rattle.dso_plain.proofs.independence.WritesGuarded.{exited_level}
use Rattle.dso_plain.proofs.independence.LeavesOthers.{differ}

-- no other hold is compatible with one at Write
alone : (hold : Option Hold) → IsCompatible Write (level_of hold) → hold ≡ None
alone None b = refl
alone (Some hold) b = absurd b

-- what is kept says all of the law
pub kept_monitors : (s : PlainState) → MonitorInvariant s → KeepsMonitors s
kept_monitors s k = record {
  exclusion = λ l t w ne write. alone (s.monitors (l, w)) (k.compatible l t w Write ne write);
  counted = k.counted;
  counted_waits = k.counted_waits;
  only_waiters = k.only_waiters;
  lost_are_out = λ l t e. k.out l t (inl e);
  ended_are_out = λ l t e. k.out l t (inr e);
}

-- nobody holds or waits at first
pub opening_kept : (shape : Shape) → MonitorInvariant (opening shape)
opening_kept shape = record {
  compatible = λ l t w x ne e. tt;
  counted = λ l t hold e. absurd (cc e);
  counted_waits = λ l t count e. absurd (cc e);
  only_waiters = λ l t e. absurd (cc e);
  out = λ l t e. (refl, refl);
}

-- of two that do not conflict neither conflicts with the other
flipped : (x y : Level) → IsCompatible x (Some y) → IsCompatible y (Some x)
flipped Read Read b = tt
flipped Read Write b = absurd b
flipped Write y b = absurd b

-- where the level of each hold is compatible with another level, so is that with the hold
flipped_hold : (x : Level) (hold : Option Hold) → ((y : Level) → level_of hold ≡ Some y → IsCompatible y (Some x)) → IsCompatible x (level_of hold)
flipped_hold x None ok = tt
flipped_hold x (Some hold) ok = flipped hold.level x (ok hold.level refl)

-- a new hold of thread t on lock l
module _ (l : LockName) (t : ThreadId) (new : Option Hold) (s : PlainState) (k : MonitorInvariant s) where
  -- a key that is there is the thread's
  place_thread : (key : LockName × ThreadId) → is_place l t key ≡ true → key.1 ≡ t
  place_thread key e = ap (λ x. x.1) (same_place l t key e)

  -- and the lock's
  place_lock : (key : LockName × ThreadId) → is_place l t key ≡ true → key.0 ≡ l
  place_lock key e = ap (λ x. x.0) (same_place l t key e)

  -- where no other hold conflicts with the new one none do
  hold_compatible : ((x : Level) → level_of new ≡ Some x → NoConflict t l x s) → (m : LockName) (u w : ThreadId) (x : Level) (b c : Bool) → is_place l t (m, u) ≡ b → is_place l t (m, w) ≡ c → u ≢ w → level_of (or_old (cond b (Some new) None) (s.monitors (m, u))) ≡ Some x → IsCompatible x (level_of (or_old (cond c (Some new) None) (s.monitors (m, w))))
  hold_compatible ok m u w x true true d d' ne e = absurd (ne (place_thread (m, u) d ∙ sym (place_thread (m, w) d')))
  hold_compatible ok m u w x true false d d' ne e = subst (λ n. IsCompatible x (level_of (s.monitors (n, w)))) (sym (place_lock (m, u) d)) (ok x e w (λ h. ne (place_thread (m, u) d ∙ sym h)))
  hold_compatible ok m u w x false true d d' ne e = flipped_hold x new (λ y h. subst (λ level. IsCompatible y level) (subst (λ n. level_of (s.monitors (n, u)) ≡ Some x) (place_lock (m, w) d') e) (ok y h u (λ i. ne (i ∙ sym (place_thread (m, w) d')))))
  hold_compatible ok m u w x false false d d' ne e = k.compatible m u w x ne e

  -- each hold is counted where the new one is
  hold_counted : ((hold : Hold) → new ≡ Some hold → 1 ≤ hold.count) → (m : LockName) (u : ThreadId) (b : Bool) (hold : Hold) → or_old (cond b (Some new) None) (s.monitors (m, u)) ≡ Some hold → 1 ≤ hold.count
  hold_counted ok m u true hold e = ok hold e
  hold_counted ok m u false hold e = k.counted m u hold e

  -- who is out holds nothing, since t is not out
  hold_out : (HasLeft s.lost s.ended t → ⊥) → (m : LockName) (u : ThreadId) (b : Bool) → is_place l t (m, u) ≡ b → HasLeft s.lost s.ended u → or_old (cond b (Some new) None) (s.monitors (m, u)) ≡ None
  hold_out going m u true d e = absurd (going (subst (λ v. HasLeft s.lost s.ended v) (place_thread (m, u) d) e))
  hold_out going m u false d e = (k.out m u e).0

  -- entered or exited
  hold_kept : (HasLeft s.lost s.ended t → ⊥) → ((x : Level) → level_of new ≡ Some x → NoConflict t l x s) → ((hold : Hold) → new ≡ Some hold → 1 ≤ hold.count) → MonitorInvariantOf (written (writes (is_place l t) (λ _. new)) s.monitors) s.asleep s.marked s.ended s.lost
  hold_kept going ok counts = record {
    compatible = λ m u w x ne e. hold_compatible ok m u w x (is_place l t (m, u)) (is_place l t (m, w)) refl refl ne e;
    counted = λ m u hold e. hold_counted counts m u (is_place l t (m, u)) hold e;
    counted_waits = k.counted_waits;
    only_waiters = k.only_waiters;
    out = λ m u e. (hold_out going m u (is_place l t (m, u)) refl e, (k.out m u e).1);
  }

  -- waited or resumed, with a new wait
  module _ (wait : Option ℕ) where
    wait_counted : ((count : ℕ) → wait ≡ Some count → 1 ≤ count) → (m : LockName) (u : ThreadId) (b : Bool) (count : ℕ) → or_old (cond b (Some wait) None) (s.asleep (m, u)) ≡ Some count → 1 ≤ count
    wait_counted ok m u true count e = ok count e
    wait_counted ok m u false count e = k.counted_waits m u count e

    wait_marked : (m : LockName) (u : ThreadId) (b : Bool) → or_old (cond b (Some false) None) (s.marked (m, u)) ≡ true → or_old (cond b (Some wait) None) (s.asleep (m, u)) ≢ None
    wait_marked m u true e = absurd (cc e)
    wait_marked m u false e = k.only_waiters m u e

    wait_out : (HasLeft s.lost s.ended t → ⊥) → (m : LockName) (u : ThreadId) (b : Bool) → is_place l t (m, u) ≡ b → HasLeft s.lost s.ended u → or_old (cond b (Some wait) None) (s.asleep (m, u)) ≡ None
    wait_out going m u true d e = absurd (going (subst (λ v. HasLeft s.lost s.ended v) (place_thread (m, u) d) e))
    wait_out going m u false d e = (k.out m u e).1

    wait_kept : (HasLeft s.lost s.ended t → ⊥) → ((x : Level) → level_of new ≡ Some x → NoConflict t l x s) → ((hold : Hold) → new ≡ Some hold → 1 ≤ hold.count) → ((count : ℕ) → wait ≡ Some count → 1 ≤ count) → MonitorInvariantOf (written (writes (is_place l t) (λ _. new)) s.monitors) (written (writes (is_place l t) (λ _. wait)) s.asleep) (written (writes (is_place l t) (λ _. false)) s.marked) s.ended s.lost
    wait_kept going ok counts waits = record {
      compatible = λ m u w x ne e. hold_compatible ok m u w x (is_place l t (m, u)) (is_place l t (m, w)) refl refl ne e;
      counted = λ m u hold e. hold_counted counts m u (is_place l t (m, u)) hold e;
      counted_waits = λ m u count e. wait_counted waits m u (is_place l t (m, u)) count e;
      only_waiters = λ m u e. wait_marked m u (is_place l t (m, u)) e;
      out = λ m u e. (hold_out going m u (is_place l t (m, u)) refl e, wait_out going m u (is_place l t (m, u)) refl e);
    }

module _ (shape : Shape) (t : ThreadId) (s : PlainState) (k : MonitorInvariant s) where
  -- a thread that may act is not out
  going : (request : Request) (reply : Reply) (woken : Option ThreadId) → IsPossible shape t request reply woken s → HasLeft s.lost s.ended t → ⊥
  going request reply woken p (inl e) = differ (s.lost t.client) p.connected e
  going request reply woken p (inr ne) = ne p.going

  -- no other conflicts with a hold that the thread has
  own_compatible : (l : LockName) (x : Level) → level_of (s.monitors (l, t)) ≡ Some x → NoConflict t l x s
  own_compatible l x e w ne = k.compatible l t w x (λ d. ne (sym d)) e

  -- an entry is compatible with the other holds
  enter_beside : (l : LockName) (level x : Level) (hold : Option Hold) → s.monitors (l, t) ≡ hold → (hold ≢ None) ⊎ NoConflict t l level s → level_of (entered level hold) ≡ Some x → NoConflict t l x s
  enter_beside l level x None d (inl held) e = absurd (held refl)
  enter_beside l level x None d (inr free) e = subst (λ y. NoConflict t l y s) (cc e) free
  enter_beside l level x (Some hold) d h e = own_compatible l x (ap level_of d ∙ e)

  -- an entered hold is counted
  enter_counted : (level : Level) (hold : Option Hold) (new : Hold) → entered level hold ≡ Some new → 1 ≤ new.count
  enter_counted level None new e = subst (λ x. 1 ≤ count_of x) e (omega arith)
  enter_counted level (Some hold) new e = subst (λ x. 1 ≤ count_of x) e (omega arith)

  -- what is left of a hold is counted
  exit_counted : (l : LockName) (hold : Option Hold) (new : Hold) → s.monitors (l, t) ≡ hold → exited hold ≡ Some new → 1 ≤ new.count
  exit_counted l None new d e = absurd (cc e)
  exit_counted l (Some hold) new d e = by (eqb hold.count 1) refl e
    where
      by : (b : Bool) → eqb hold.count 1 ≡ b → cond b None (Some (record { level = hold.level; count = hold.count - 1 })) ≡ Some new → 1 ≤ new.count
      by true d' e = absurd (cc e)
      by false d' e =
          let more = k.counted l t hold d in
          let ne = eqb-false hold.count 1 d' in
          subst (λ x. 1 ≤ count_of x) e (omega arith)

  -- a hold at Write that waits is counted
  wait_counts : (l : LockName) (hold : Option Hold) (count : ℕ) → s.monitors (l, t) ≡ hold → level_of hold ≡ Some Write → Some (count_of hold) ≡ Some count → 1 ≤ count
  wait_counts l None count d w e = absurd (cc w)
  wait_counts l (Some hold) count d w e =
      let same : hold.count ≡ count = cc e in
      subst (λ n. 1 ≤ n) same (k.counted l t hold d)

  -- a hold where there is no other is compatible with all
  resume_beside : (l : LockName) (x : Level) → ((w : ThreadId) → s.monitors (l, w) ≡ None) → NoConflict t l x s
  resume_beside l x free w ne = subst (λ hold. IsCompatible x (level_of hold)) (sym (free w)) tt

  -- a hold that is had again is counted
  resume_counted : (l : LockName) (wait : Option ℕ) (new : Hold) → s.asleep (l, t) ≡ wait → resumed wait ≡ Some new → 1 ≤ new.count
  resume_counted l None new d e = absurd (cc e)
  resume_counted l (Some count) new d e = subst (λ x. 1 ≤ count_of x) e (k.counted_waits l t count d)

  -- a notification of a waiter keeps it, and so does a timeout, which marks the thread itself
  notify_kept : (l : LockName) (woken : Option ThreadId) → ((w : ThreadId) → woken ≡ Some w → s.asleep (l, w) ≢ None) → MonitorInvariant (apply (notifies l woken) s)
  notify_kept l None ok = k
  notify_kept l (Some w) ok = record {
    compatible = k.compatible;
    counted = k.counted;
    counted_waits = k.counted_waits;
    only_waiters = λ m u e. marks m u (is_place l w (m, u)) refl e;
    out = k.out;
  }
    where
      marks : (m : LockName) (u : ThreadId) (b : Bool) → is_place l w (m, u) ≡ b → or_old (cond b (Some true) None) (s.marked (m, u)) ≡ true → s.asleep (m, u) ≢ None
      marks m u true d e = subst (λ key. s.asleep key ≢ None) (sym (same_place l w (m, u) d)) (ok w refl)
      marks m u false d e = k.only_waiters m u e

  -- and so does one of all
  notify_all_kept : (l : LockName) → MonitorInvariant (apply (notifies_all l s) s)
  notify_all_kept l = record {
    compatible = k.compatible;
    counted = k.counted;
    counted_waits = k.counted_waits;
    only_waiters = λ m u e. marks m u (is_lock l m) (s.asleep (m, u)) refl e;
    out = k.out;
  }
    where
      marks : (m : LockName) (u : ThreadId) (b : Bool) (wait : Option ℕ) → s.asleep (m, u) ≡ wait → or_old (cond (b && is_some wait) (Some true) None) (s.marked (m, u)) ≡ true → wait ≢ None
      marks m u true None d e = λ h. k.only_waiters m u e d
      marks m u false None d e = λ h. k.only_waiters m u e d
      marks m u b (Some count) d e = λ h. absurd (cc h)

  -- a put does not bear on it
  put_kept : (o f : ℕ) (v : Value) (b : Bool) → MonitorInvariant (apply (put t o f v b s) s)
  put_kept o f v true = k
  put_kept o f v false = k

  -- nor does a read of a shared object
  read_shared_kept : (o f : ℕ) (hold : Option Hold) → MonitorInvariant (apply (read_shared t o f hold s) s)
  read_shared_kept o f None = k
  read_shared_kept o f (Some hold) = k

  -- nor any read
  read_kept : (o f : ℕ) (b : Bool) → MonitorInvariant (apply (read shape t o f b s) s)
  read_kept o f true = read_shared_kept o f (hold_on_guard shape t o f s)
  read_kept o f false = k

  -- an end of a thread that has no part in a lock keeps it
  end_kept : (fault : Option Fault) → ((l : LockName) → HasNoPart l t s) → MonitorInvariant (apply (change_of shape t (End fault) Done None s) s)
  end_kept fault none_left = record {
    compatible = k.compatible;
    counted = k.counted;
    counted_waits = k.counted_waits;
    only_waiters = k.only_waiters;
    out = λ l u e. outs l u (is_thread t u) refl e;
  }
    where
      outs : (l : LockName) (u : ThreadId) (b : Bool) → is_thread t u ≡ b → (s.lost u.client ≡ true) ⊎ (or_old (cond b (Some (Some fault)) None) (s.ended u) ≢ None) → HasNoPart l u s
      outs l u true d e = subst (λ v. HasNoPart l v s) (sym (same_thread t u d)) (none_left l)
      outs l u false d e = k.out l u e

  -- each act keeps it
  act_kept : (request : Request) (reply : Reply) (woken : Option ThreadId) → IsPossible shape t request reply woken s → MonitorInvariant (apply (change_of shape t request reply woken s) s)
  act_kept (New class n) (Made o) woken p = k
  act_kept (Get o f) (Val v) woken p = read_kept o f (is_shared (s.objects o))
  act_kept (Put o f v) Done woken p = put_kept o f v (is_shared (s.objects o))
  act_kept (Enter l level) Done woken p = hold_kept l t (entered level (s.monitors (l, t))) s k (going (Enter l level) Done woken p) (λ x e. enter_beside l level x (s.monitors (l, t)) refl p.answers.2 e) (λ new e. enter_counted level (s.monitors (l, t)) new e)
  act_kept (Exit l) Done woken p = hold_kept l t (exited (s.monitors (l, t))) s k (going (Exit l) Done woken p) (λ x e. own_compatible l x (exited_level x (s.monitors (l, t)) e)) (λ new e. exit_counted l (s.monitors (l, t)) new refl e)
  act_kept (Wait l) Done woken p = wait_kept l t None s k (Some (count_of (s.monitors (l, t)))) (going (Wait l) Done woken p) (λ x e. absurd (cc e)) (λ new e. absurd (cc e)) (λ count e. wait_counts l (s.monitors (l, t)) count refl p.answers e)
  act_kept (Timeout l) Done woken p = notify_kept l (Some t) (λ v e. subst (λ x. s.asleep (l, x) ≢ None) (cc e) p.answers)
  act_kept (Resume l) Done woken p = wait_kept l t (resumed (s.asleep (l, t))) s k None (going (Resume l) Done woken p) (λ x e. resume_beside l x p.answers.1) (λ new e. resume_counted l (s.asleep (l, t)) new refl e) (λ count e. absurd (cc e))
  act_kept (Notify l) Done None p = k
  act_kept (Notify l) Done (Some w) p = notify_kept l (Some w) (λ v e. subst (λ x. s.asleep (l, x) ≢ None) (cc e) p.wakes.0)
  act_kept (NotifyAll l) Done woken p = notify_all_kept l
  act_kept (Print v) Done woken p = k
  act_kept (End fault) Done woken p = end_kept fault (λ l. (p.answers l, p.awake l))
  act_kept request reply woken p = k

-- the lost client's threads are out
lost_kept : (client : ℕ) (s : PlainState) → MonitorInvariant s → MonitorInvariant (apply (loses client) s)
lost_kept client s k = record {
  compatible = λ l t w x ne e. cleared_compatible l t w x (eqb t.client client) (eqb w.client client) ne e;
  counted = λ l t hold e. cleared_counted l t hold (eqb t.client client) e;
  counted_waits = λ l t count e. cleared_waits l t count (eqb t.client client) e;
  only_waiters = λ l t e. cleared_marks l t (eqb t.client client) e;
  out = λ l t e. cleared_out l t (eqb t.client client) e;
}
  where
    cleared_compatible : (l : LockName) (t w : ThreadId) (x : Level) (b c : Bool) → t ≢ w → level_of (or_old (cond b (Some None) None) (s.monitors (l, t))) ≡ Some x → IsCompatible x (level_of (or_old (cond c (Some None) None) (s.monitors (l, w))))
    cleared_compatible l t w x true c ne e = absurd (cc e)
    cleared_compatible l t w x false true ne e = tt
    cleared_compatible l t w x false false ne e = k.compatible l t w x ne e

    cleared_counted : (l : LockName) (t : ThreadId) (hold : Hold) (b : Bool) → or_old (cond b (Some None) None) (s.monitors (l, t)) ≡ Some hold → 1 ≤ hold.count
    cleared_counted l t hold true e = absurd (cc e)
    cleared_counted l t hold false e = k.counted l t hold e

    cleared_waits : (l : LockName) (t : ThreadId) (count : ℕ) (b : Bool) → or_old (cond b (Some None) None) (s.asleep (l, t)) ≡ Some count → 1 ≤ count
    cleared_waits l t count true e = absurd (cc e)
    cleared_waits l t count false e = k.counted_waits l t count e

    cleared_marks : (l : LockName) (t : ThreadId) (b : Bool) → or_old (cond b (Some false) None) (s.marked (l, t)) ≡ true → or_old (cond b (Some None) None) (s.asleep (l, t)) ≢ None
    cleared_marks l t true e = absurd (cc e)
    cleared_marks l t false e = k.only_waiters l t e

    cleared_out : (l : LockName) (t : ThreadId) (b : Bool) → (or_old (cond b (Some true) None) (s.lost t.client) ≡ true) ⊎ (s.ended t ≢ None) → (or_old (cond b (Some None) None) (s.monitors (l, t)) ≡ None) × (or_old (cond b (Some None) None) (s.asleep (l, t)) ≡ None)
    cleared_out l t true e = (refl, refl)
    cleared_out l t false e = k.out l t e

-- each event keeps it
pub event_kept : (shape : Shape) (e : Event) (s : PlainState) → May shape e s → MonitorInvariant s → MonitorInvariant (after shape e s)
event_kept shape (Act t request reply woken) s m k = act_kept shape t s k request reply woken m
event_kept shape (Lost client) s m k = lost_kept client s k

-- a run keeps it
pub run_kept : (shape : Shape) (es : List Event) (s : PlainState) → Runs shape es s → MonitorInvariant s → MonitorInvariant (end_of shape es s)
run_kept shape [] s m k = k
run_kept shape (e ∷ es) s m k = run_kept shape es (after shape e s) m.1 (event_kept shape e s m.0 k)

-- in every state that is reached
pub monitors : (shape : Shape) (h : List Event) → Runs shape h (opening shape) → KeepsMonitors (last_state shape h)
monitors shape h m = kept_monitors (last_state shape h) (run_kept shape h (opening shape) m (opening_kept shape))

-- The state after a change of a hold or a wait in the tables, and that the tables still agree.
use Rattle.std.proofs.Common.{ℕ, ◌≡◌, inl, inr, refl, sym, ◌∙◌, ap, subst, Bool, true, false, cond, ◌&&◌, ◌||◌, ◌⊎◌, is_some, Option, Some, None}
use Rattle.std.proofs.Math.Path.{fun_ext}
use Rattle.std.specs.Option.{option_map}
use Rattle.std.specs.Ordering.{nat_cmp}
use Rattle.std.specs.BTreeMap.{BTreeMap}
use Rattle.dso_base.specs.declared.lock.LockName.{LockName}
use Rattle.dso_base.specs.declared.lock.ThreadId.{ThreadId}
use Rattle.dso_plain.specs.declared.tables.Hold as table
use Rattle.dso_plain.specs.declared.tables.HeapTables.{HeapTables}
use Rattle.dso_plain.specs.KeyTests.{is_place}
use Rattle.dso_lookup.specs.Maps.{writes, or_old, written}
use Rattle.dso_lookup.specs.Rows.{look_in, is_at_pair}
use Rattle.dso_plain.specs.State.{Hold}
use Rattle.dso_plain.specs.TableInvariants.{IndexesAgree}
use Rattle.dso_plain.specs.Changes.{with_hold, with_wait}
use Rattle.dso_lookup.specs.Orders.{lock_order, thread_order}
use Rattle.dso_plain.specs.HeapTables.{hold_of, either, state_of}
use Rattle.dso_plain.proofs.keys.SameKeys.{same_place}
use Rattle.dso_plain.proofs.keys.TableOrders.{place_at}
use Rattle.dso_plain.proofs.keys.Writes.{renamed}
use Rattle.dso_plain.proofs.table_changes.AgreeAfterChange.{still_same, stays_listed, now_listed, holds_changed}

-- what a change at the places of a lock and a thread is, in a table by lock, and in one by thread
abbrev ByLock : {V : Type 0} → LockName → ThreadId → Option V → BTreeMap LockName (BTreeMap ThreadId V) → BTreeMap LockName (BTreeMap ThreadId V) → Type 0
ByLock l t new m n = look_in lock_order thread_order n ≡ written (writes (is_at_pair lock_order thread_order l t) (λ _. new)) (look_in lock_order thread_order m)

abbrev ByThread : {V : Type 0} → LockName → ThreadId → Option V → BTreeMap ThreadId (BTreeMap LockName V) → BTreeMap ThreadId (BTreeMap LockName V) → Type 0
ByThread l t new m n = look_in thread_order lock_order n ≡ written (writes (is_at_pair thread_order lock_order t l) (λ _. new)) (look_in thread_order lock_order m)

abbrev ByClient : ThreadId → BTreeMap ℕ (BTreeMap ThreadId (Unit {0})) → BTreeMap ℕ (BTreeMap ThreadId (Unit {0})) → Type 0
ByClient t m n = look_in nat_cmp thread_order n ≡ written (writes (is_at_pair nat_cmp thread_order t.client t) (λ _. Some tt)) (look_in nat_cmp thread_order m)

-- where a test does not hold what was there stands
either_place : {A : Type 0} (b : Bool) (new x : Option A) → (b ≡ true) ⊎ (is_some (or_old (cond b (Some new) None) x) ≡ is_some x)
either_place true new x = inl refl
either_place false new x = inr refl

module _ (old : HeapTables) (agrees : IndexesAgree old) (l : LockName) (t : ThreadId) where
  -- a hold is set
  module _ (hold : table.Hold) (holds : BTreeMap LockName (BTreeMap ThreadId table.Hold)) (held : BTreeMap ThreadId (BTreeMap LockName (Unit {0}))) (threads : BTreeMap ℕ (BTreeMap ThreadId (Unit {0}))) (first : ByLock l t (Some hold) old.holds holds) (second : ByThread l t (Some tt) old.held held) (third : ByClient t old.threads threads) where
    set_monitors : (λ key. option_map hold_of (look_in lock_order thread_order holds key)) ≡ written (writes (is_place l t) (λ _. Some (hold_of hold))) (state_of old).monitors
    set_monitors = holds_changed l t (Some hold) (look_in lock_order thread_order old.holds) (look_in lock_order thread_order holds) first

    pub hold_set_state : state_of (record old { holds = holds; held = held; threads = threads }) ≡ with_hold l t (Some (hold_of hold)) (state_of old)
    hold_set_state = λ i. record (state_of old) { monitors = set_monitors i }

    set_listed : (m : LockName) (u : ThreadId) → (is_some ((state_of (record old { holds = holds })).monitors (m, u)) || is_some ((state_of old).asleep (m, u))) ≡ true → is_some (look_in nat_cmp thread_order threads (u.client, u)) ≡ true
    set_listed m u e = elim (either_place (is_place l t (m, u)) (Some (hold_of hold)) ((state_of old).monitors (m, u))) [
      | inl here ↦ subst (λ w. is_some (look_in nat_cmp thread_order threads (w.client, w)) ≡ true) (sym (ap (λ k. k.1) (same_place l t (m, u) here))) (now_listed t (look_in nat_cmp thread_order old.threads) (look_in nat_cmp thread_order threads) third)
      | inr same ↦ stays_listed t (look_in nat_cmp thread_order old.threads) (look_in nat_cmp thread_order threads) third u (agrees.listed m u (ap (λ b. b || is_some ((state_of old).asleep (m, u))) (sym (ap (λ f. is_some (f (m, u))) set_monitors ∙ same)) ∙ e))
    ]

    pub hold_set_agrees : IndexesAgree (record old { holds = holds; held = held; threads = threads })
    hold_set_agrees = record {
      held = still_same l t (Some tt) (Some (hold_of hold)) (look_in thread_order lock_order old.held) (look_in thread_order lock_order held) (state_of old).monitors (λ key. option_map hold_of (look_in lock_order thread_order holds key)) refl second set_monitors agrees.held;
      waiting = agrees.waiting;
      apart = agrees.apart;
      listed = set_listed;
    }

  -- a hold is taken
  module _ (holds : BTreeMap LockName (BTreeMap ThreadId table.Hold)) (held : BTreeMap ThreadId (BTreeMap LockName (Unit {0}))) (first : ByLock l t None old.holds holds) (second : ByThread l t None old.held held) where
    drop_monitors : (λ key. option_map hold_of (look_in lock_order thread_order holds key)) ≡ written (writes (is_place l t) (λ _. None)) (state_of old).monitors
    drop_monitors = holds_changed l t None (look_in lock_order thread_order old.holds) (look_in lock_order thread_order holds) first

    pub hold_drop_state : state_of (record old { holds = holds; held = held }) ≡ with_hold l t None (state_of old)
    hold_drop_state = λ i. record (state_of old) { monitors = drop_monitors i }

    fewer : (b c : Bool) (x : Option Hold) → (is_some (or_old (cond b (Some None) None) x) || c) ≡ true → (is_some x || c) ≡ true
    fewer true true None e = refl
    fewer true true (Some x) e = refl
    fewer true false x e = absurd (cc e)
    fewer false c x e = e

    pub hold_drop_agrees : IndexesAgree (record old { holds = holds; held = held })
    hold_drop_agrees = record {
      held = still_same l t None None (look_in thread_order lock_order old.held) (look_in thread_order lock_order held) (state_of old).monitors (λ key. option_map hold_of (look_in lock_order thread_order holds key)) refl second drop_monitors agrees.held;
      waiting = agrees.waiting;
      apart = agrees.apart;
      listed = λ m u e. agrees.listed m u (fewer (is_place l t (m, u)) (is_some ((state_of old).asleep (m, u))) ((state_of old).monitors (m, u)) (ap (λ f. is_some (f (m, u)) || is_some ((state_of old).asleep (m, u))) (sym drop_monitors) ∙ e));
    }

  -- a wait is set
  module _ (count : ℕ) (waits : BTreeMap LockName (BTreeMap ThreadId ℕ)) (waiting : BTreeMap ThreadId (BTreeMap LockName (Unit {0}))) (threads : BTreeMap ℕ (BTreeMap ThreadId (Unit {0}))) (awake : (state_of old).asleep (l, t) ≡ None) (first : ByLock l t (Some count) old.waits waits) (second : ByThread l t (Some tt) old.waiting waiting) (third : ByClient t old.threads threads) where
    by_place : look_in lock_order thread_order waits ≡ written (writes (is_place l t) (λ _. Some count)) (look_in lock_order thread_order old.waits)
    by_place = renamed (is_at_pair lock_order thread_order l t) (is_place l t) (Some count) (look_in lock_order thread_order old.waits) (look_in lock_order thread_order waits) (place_at l t) first

    set_asleep : (λ key. either (look_in lock_order thread_order waits key) (look_in lock_order thread_order old.marked key)) ≡ written (writes (is_place l t) (λ _. Some count)) (state_of old).asleep
    set_asleep = fun_ext (λ key. ap (λ f. either (f key) (look_in lock_order thread_order old.marked key)) by_place ∙ by (is_place l t key) (look_in lock_order thread_order old.waits key) (look_in lock_order thread_order old.marked key))
      where
        by : (b : Bool) (x y : Option ℕ) → either (or_old (cond b (Some (Some count)) None) x) y ≡ or_old (cond b (Some (Some count)) None) (either x y)
        by true x y = refl
        by false x y = refl

    unmarked : (x y : Option ℕ) → either x y ≡ None → is_some y ≡ false
    unmarked None None e = refl
    unmarked None (Some y) e = absurd (cc e)
    unmarked (Some x) y e = absurd (cc e)

    none_marked : is_some (look_in lock_order thread_order old.marked (l, t)) ≡ false
    none_marked = unmarked (look_in lock_order thread_order old.waits (l, t)) (look_in lock_order thread_order old.marked (l, t)) awake

    set_marked : (state_of old).marked ≡ written (writes (is_place l t) (λ _. false)) (state_of old).marked
    set_marked = fun_ext (λ key. by key (is_place l t key) refl)
      where
        by : (key : LockName × ThreadId) (b : Bool) → is_place l t key ≡ b → (state_of old).marked key ≡ or_old (cond b (Some false) None) ((state_of old).marked key)
        by key true e = ap (λ k. (state_of old).marked k) (same_place l t key e) ∙ none_marked
        by key false e = refl

    pub wait_set_state : state_of (record old { waits = waits; waiting = waiting; threads = threads }) ≡ with_wait l t (Some count) false (state_of old)
    wait_set_state = λ i. record (state_of old) { asleep = set_asleep i; marked = set_marked i }

    set_apart : (m : LockName) (u : ThreadId) → (is_some (look_in lock_order thread_order waits (m, u)) && is_some (look_in lock_order thread_order old.marked (m, u))) ≡ false
    set_apart m u = ap (λ f. is_some (f (m, u)) && is_some (look_in lock_order thread_order old.marked (m, u))) by_place ∙ by (is_place l t (m, u)) refl
      where
        by : (b : Bool) → is_place l t (m, u) ≡ b → (is_some (or_old (cond b (Some (Some count)) None) (look_in lock_order thread_order old.waits (m, u))) && is_some (look_in lock_order thread_order old.marked (m, u))) ≡ false
        by true e = ap (λ k. is_some (look_in lock_order thread_order old.marked k)) (same_place l t (m, u) e) ∙ none_marked
        by false e = agrees.apart m u

    wait_listed : (m : LockName) (u : ThreadId) → (is_some ((state_of old).monitors (m, u)) || is_some ((state_of (record old { waits = waits })).asleep (m, u))) ≡ true → is_some (look_in nat_cmp thread_order threads (u.client, u)) ≡ true
    wait_listed m u e = elim (either_place (is_place l t (m, u)) (Some count) ((state_of old).asleep (m, u))) [
      | inl here ↦ subst (λ w. is_some (look_in nat_cmp thread_order threads (w.client, w)) ≡ true) (sym (ap (λ k. k.1) (same_place l t (m, u) here))) (now_listed t (look_in nat_cmp thread_order old.threads) (look_in nat_cmp thread_order threads) third)
      | inr same ↦ stays_listed t (look_in nat_cmp thread_order old.threads) (look_in nat_cmp thread_order threads) third u (agrees.listed m u (ap (λ b. is_some ((state_of old).monitors (m, u)) || b) (sym (ap (λ f. is_some (f (m, u))) set_asleep ∙ same)) ∙ e))
    ]

    pub wait_set_agrees : IndexesAgree (record old { waits = waits; waiting = waiting; threads = threads })
    wait_set_agrees = record {
      held = agrees.held;
      waiting = still_same l t (Some tt) (Some count) (look_in thread_order lock_order old.waiting) (look_in thread_order lock_order waiting) (state_of old).asleep (λ key. either (look_in lock_order thread_order waits key) (look_in lock_order thread_order old.marked key)) refl second set_asleep agrees.waiting;
      apart = set_apart;
      listed = wait_listed;
    }

  -- a wait is ended
  module _ (waits marked : BTreeMap LockName (BTreeMap ThreadId ℕ)) (waiting : BTreeMap ThreadId (BTreeMap LockName (Unit {0}))) (first : ByLock l t None old.waits waits) (other : ByLock l t None old.marked marked) (second : ByThread l t None old.waiting waiting) where
    gone_waits : look_in lock_order thread_order waits ≡ written (writes (is_place l t) (λ _. None)) (look_in lock_order thread_order old.waits)
    gone_waits = renamed (is_at_pair lock_order thread_order l t) (is_place l t) None (look_in lock_order thread_order old.waits) (look_in lock_order thread_order waits) (place_at l t) first

    gone_marked : look_in lock_order thread_order marked ≡ written (writes (is_place l t) (λ _. None)) (look_in lock_order thread_order old.marked)
    gone_marked = renamed (is_at_pair lock_order thread_order l t) (is_place l t) None (look_in lock_order thread_order old.marked) (look_in lock_order thread_order marked) (place_at l t) other

    drop_asleep : (λ key. either (look_in lock_order thread_order waits key) (look_in lock_order thread_order marked key)) ≡ written (writes (is_place l t) (λ _. None)) (state_of old).asleep
    drop_asleep = fun_ext (λ key. λ i. either (gone_waits i key) (gone_marked i key)) ∙ fun_ext (λ key. by (is_place l t key) (look_in lock_order thread_order old.waits key) (look_in lock_order thread_order old.marked key))
      where
        by : (b : Bool) (x y : Option ℕ) → either (or_old (cond b (Some None) None) x) (or_old (cond b (Some None) None) y) ≡ or_old (cond b (Some None) None) (either x y)
        by true x y = refl
        by false x y = refl

    drop_marked : (λ key. is_some (look_in lock_order thread_order marked key)) ≡ written (writes (is_place l t) (λ _. false)) (state_of old).marked
    drop_marked = fun_ext (λ key. λ i. is_some (gone_marked i key)) ∙ fun_ext (λ key. by (is_place l t key) (look_in lock_order thread_order old.marked key))
      where
        by : (b : Bool) (y : Option ℕ) → is_some (or_old (cond b (Some None) None) y) ≡ or_old (cond b (Some false) None) (is_some y)
        by true y = refl
        by false y = refl

    pub wait_drop_state : state_of (record old { waits = waits; marked = marked; waiting = waiting }) ≡ with_wait l t None false (state_of old)
    wait_drop_state = λ i. record (state_of old) { asleep = drop_asleep i; marked = drop_marked i }

    still_apart : (b : Bool) (x y : Option ℕ) → (is_some x && is_some y) ≡ false → (is_some (or_old (cond b (Some None) None) x) && is_some (or_old (cond b (Some None) None) y)) ≡ false
    still_apart true x y e = refl
    still_apart false x y e = e

    fewer_waits : (b c : Bool) (x : Option ℕ) → (c || is_some (or_old (cond b (Some None) None) x)) ≡ true → (c || is_some x) ≡ true
    fewer_waits true true x e = refl
    fewer_waits true false x e = absurd (cc e)
    fewer_waits false c x e = e

    pub wait_drop_agrees : IndexesAgree (record old { waits = waits; marked = marked; waiting = waiting })
    wait_drop_agrees = record {
      held = agrees.held;
      waiting = still_same l t None None (look_in thread_order lock_order old.waiting) (look_in thread_order lock_order waiting) (state_of old).asleep (λ key. either (look_in lock_order thread_order waits key) (look_in lock_order thread_order marked key)) refl second drop_asleep agrees.waiting;
      apart = λ m u. (λ i. is_some (gone_waits i (m, u)) && is_some (gone_marked i (m, u))) ∙ still_apart (is_place l t (m, u)) (look_in lock_order thread_order old.waits (m, u)) (look_in lock_order thread_order old.marked (m, u)) (agrees.apart m u);
      listed = λ m u e. agrees.listed m u (fewer_waits (is_place l t (m, u)) (is_some ((state_of old).monitors (m, u))) ((state_of old).asleep (m, u)) (ap (λ f. is_some ((state_of old).monitors (m, u)) || is_some (f (m, u))) (sym drop_asleep) ∙ e));
    }

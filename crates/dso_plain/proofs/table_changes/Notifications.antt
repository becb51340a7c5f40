-- Marks in the tables: a wait moves to those that are marked, or is one of them already.
use Rattle.std.proofs.Common.{ℕ, ◌≡◌, ◌≢◌, refl, sym, ◌∙◌, ap, Bool, true, false, cond, ◌&&◌, ◌||◌, is_some, Option, Some, None}
use Rattle.std.proofs.Math.Path.{fun_ext}
use Rattle.std.specs.BTreeMap.{BTreeMap, is_at}
use Rattle.dso_base.specs.declared.lock.LockName.{LockName}
use Rattle.dso_base.specs.declared.lock.ThreadId.{ThreadId}
use Rattle.dso_base.specs.Following.{is_thread}
use Rattle.dso_plain.specs.declared.tables.HeapTables.{HeapTables}
use Rattle.dso_plain.specs.KeyTests.{is_lock, is_place}
use Rattle.dso_lookup.specs.Maps.{writes, or_old, written, look}
use Rattle.dso_lookup.specs.Rows.{look_in, in_row, is_at_pair}
use Rattle.dso_plain.specs.After.{apply, times_out, notifies_all}
use Rattle.dso_plain.specs.Changes.{moved}
use Rattle.dso_plain.specs.TableInvariants.{IndexesAgree}
use Rattle.dso_lookup.specs.Orders.{lock_order, thread_order}
use Rattle.dso_plain.specs.HeapTables.{either, state_of}
use Rattle.dso_plain.proofs.keys.SameKeys.{same_place, same_lock, same_thread}
use Rattle.dso_plain.proofs.keys.TableOrders.{place_at, lock_at, thread_at}
use Rattle.dso_plain.proofs.keys.Writes.{renamed}

module _ (old : HeapTables) (agrees : IndexesAgree old) (l : LockName) (t : ThreadId) (count : ℕ) (waits marked : BTreeMap LockName (BTreeMap ThreadId ℕ)) (was : Some count ≡ look_in lock_order thread_order old.waits (l, t)) (first : look_in lock_order thread_order waits ≡ written (writes (is_at_pair lock_order thread_order l t) (λ _. None)) (look_in lock_order thread_order old.waits)) (second : look_in lock_order thread_order marked ≡ written (writes (is_at_pair lock_order thread_order l t) (λ _. Some count)) (look_in lock_order thread_order old.marked)) where
  waits_then : LockName × ThreadId → Option ℕ
  waits_then = look_in lock_order thread_order old.waits

  marked_then : LockName × ThreadId → Option ℕ
  marked_then = look_in lock_order thread_order old.marked

  fewer_waits : look_in lock_order thread_order waits ≡ written (writes (is_place l t) (λ _. None)) (look_in lock_order thread_order old.waits)
  fewer_waits = renamed (is_at_pair lock_order thread_order l t) (is_place l t) None (look_in lock_order thread_order old.waits) (look_in lock_order thread_order waits) (place_at l t) first

  more_marked : look_in lock_order thread_order marked ≡ written (writes (is_place l t) (λ _. Some count)) (look_in lock_order thread_order old.marked)
  more_marked = renamed (is_at_pair lock_order thread_order l t) (is_place l t) (Some count) (look_in lock_order thread_order old.marked) (look_in lock_order thread_order marked) (place_at l t) second

  same_asleep : (λ key. either (look_in lock_order thread_order waits key) (look_in lock_order thread_order marked key)) ≡ (state_of old).asleep
  same_asleep = fun_ext (λ key. λ i. either (fewer_waits i key) (more_marked i key)) ∙ fun_ext (λ key. by key (is_place l t key) refl)
    where
      by : (key : LockName × ThreadId) (b : Bool) → is_place l t key ≡ b → either (or_old (cond b (Some None) None) (look_in lock_order thread_order old.waits key)) (or_old (cond b (Some (Some count)) None) (look_in lock_order thread_order old.marked key)) ≡ either (look_in lock_order thread_order old.waits key) (look_in lock_order thread_order old.marked key)
      by key true e = ap (λ x. either x (look_in lock_order thread_order old.marked key)) (was ∙ ap (λ k. look_in lock_order thread_order old.waits k) (sym (same_place l t key e)))
      by key false e = refl

  now_marked : (λ key. is_some (look_in lock_order thread_order marked key)) ≡ written (writes (is_place l t) (λ _. true)) (state_of old).marked
  now_marked = fun_ext (λ key. λ i. is_some (more_marked i key)) ∙ fun_ext (λ key. by (is_place l t key) (look_in lock_order thread_order old.marked key))
    where
      by : (b : Bool) (y : Option ℕ) → is_some (or_old (cond b (Some (Some count)) None) y) ≡ or_old (cond b (Some true) None) (is_some y)
      by true y = refl
      by false y = refl

  pub mark_state : state_of (record old { waits = waits; marked = marked }) ≡ apply (times_out t l) (state_of old)
  mark_state = λ i. record (state_of old) { asleep = same_asleep i; marked = now_marked i }

  still_apart : (b : Bool) (x y : Option ℕ) → (is_some x && is_some y) ≡ false → (is_some (or_old (cond b (Some None) None) x) && is_some (or_old (cond b (Some (Some count)) None) y)) ≡ false
  still_apart true x y e = refl
  still_apart false x y e = e

  pub mark_agrees : IndexesAgree (record old { waits = waits; marked = marked })
  mark_agrees = record {
    held = agrees.held;
    waiting = λ m u. agrees.waiting m u ∙ sym (ap (λ f. is_some (f (m, u))) same_asleep);
    apart = λ m u. (λ i. is_some (fewer_waits i (m, u)) && is_some (more_marked i (m, u))) ∙ still_apart (is_place l t (m, u)) (look_in lock_order thread_order old.waits (m, u)) (look_in lock_order thread_order old.marked (m, u)) (agrees.apart m u);
    listed = λ m u e. agrees.listed m u (ap (λ f. is_some ((state_of old).monitors (m, u)) || is_some (f (m, u))) (sym same_asleep) ∙ e);
  }

-- who waits, and not among those that are not marked, is marked
marked_then_is : (x y : Option ℕ) → either x y ≢ None → None ≡ x → is_some y ≡ true
marked_then_is x None some e = absurd (some (ap (λ z. either z None) (sym e)))
marked_then_is x (Some y) some e = refl

module _ (old : HeapTables) (agrees : IndexesAgree old) (l : LockName) (t : ThreadId) (waits : BTreeMap LockName (BTreeMap ThreadId ℕ)) (asleep : (state_of old).asleep (l, t) ≢ None) (was : None ≡ look_in lock_order thread_order old.waits (l, t)) (first : look_in lock_order thread_order waits ≡ written (writes (is_at_pair lock_order thread_order l t) (λ _. None)) (look_in lock_order thread_order old.waits)) where
  -- the waits that are not marked stay as they were
  same_waits : look_in lock_order thread_order waits ≡ look_in lock_order thread_order old.waits
  same_waits = renamed (is_at_pair lock_order thread_order l t) (is_place l t) None (look_in lock_order thread_order old.waits) (look_in lock_order thread_order waits) (place_at l t) first ∙ fun_ext (λ key. by key (is_place l t key) refl)
    where
      by : (key : LockName × ThreadId) (b : Bool) → is_place l t key ≡ b → or_old (cond b (Some None) None) (look_in lock_order thread_order old.waits key) ≡ look_in lock_order thread_order old.waits key
      by key true e = was ∙ ap (λ k. look_in lock_order thread_order old.waits k) (sym (same_place l t key e))
      by key false e = refl

  -- and so do all waits
  all_asleep_still : (λ key. either (look_in lock_order thread_order waits key) (look_in lock_order thread_order old.marked key)) ≡ (state_of old).asleep
  all_asleep_still = fun_ext (λ key. λ i. either (same_waits i key) (look_in lock_order thread_order old.marked key))

  -- the thread is marked, so that a mark of it changes nothing
  marked_still : (state_of old).marked ≡ written (writes (is_place l t) (λ _. true)) (state_of old).marked
  marked_still = fun_ext (λ key. by key (is_place l t key) refl)
    where
      by : (key : LockName × ThreadId) (b : Bool) → is_place l t key ≡ b → (state_of old).marked key ≡ or_old (cond b (Some true) None) ((state_of old).marked key)
      by key true e = ap (λ k. (state_of old).marked k) (same_place l t key e) ∙ marked_then_is (look_in lock_order thread_order old.waits (l, t)) (look_in lock_order thread_order old.marked (l, t)) asleep was
      by key false e = refl

  pub mark_again_state : state_of (record old { waits = waits }) ≡ apply (times_out t l) (state_of old)
  mark_again_state = λ i. record (state_of old) { asleep = all_asleep_still i; marked = marked_still i }

  pub mark_again_agrees : IndexesAgree (record old { waits = waits })
  mark_again_agrees = record {
    held = agrees.held;
    waiting = λ m u. agrees.waiting m u ∙ sym (ap (λ f. is_some (f (m, u))) all_asleep_still);
    apart = λ m u. ap (λ f. is_some (f (m, u)) && is_some (look_in lock_order thread_order old.marked (m, u))) same_waits ∙ agrees.apart m u;
    listed = λ m u e. agrees.listed m u (ap (λ f. is_some ((state_of old).monitors (m, u)) || is_some (f (m, u))) (sym all_asleep_still) ∙ e);
  }

-- one wait of the row moved
pub one_moved : (l : LockName) (t : ThreadId) (count : ℕ) (row row' : ThreadId → Option ℕ) (marked marked' : LockName × ThreadId → Option ℕ) → row t ≡ Some count → row' ≡ written (writes (is_at (thread_order t)) (λ _. None)) row → marked' ≡ written (writes (is_at_pair lock_order thread_order l t) (λ _. Some count)) marked → moved l row' marked' ≡ moved l row marked
one_moved l t count row row' marked marked' was first second = fun_ext (λ key. (λ i. moved l (first i) (second i) key) ∙ ((λ i. cond (is_lock l key.0) (either (or_old (cond (thread_at t key.1 i) (Some None) None) (row key.1)) (or_old (cond (place_at l t key i) (Some (Some count)) None) (marked key))) (or_old (cond (place_at l t key i) (Some (Some count)) None) (marked key))) ∙ by key (is_lock l key.0) (is_thread t key.1) refl))
  where
    by : (key : LockName × ThreadId) (a b : Bool) → is_thread t key.1 ≡ b → cond a (either (or_old (cond b (Some None) None) (row key.1)) (or_old (cond (a && b) (Some (Some count)) None) (marked key))) (or_old (cond (a && b) (Some (Some count)) None) (marked key)) ≡ cond a (either (row key.1) (marked key)) (marked key)
    by key true true e = ap (λ x. either x (marked key)) (sym (ap (λ u. row u) (same_thread t key.1 e) ∙ was))
    by key true false e = refl
    by key false b e = refl

-- nothing is left of the row
pub none_moved : (l : LockName) (row : ThreadId → Option ℕ) (marked : LockName × ThreadId → Option ℕ) → row ≡ (λ _. None) → marked ≡ moved l row marked
none_moved l row marked none = sym ((λ i. moved l (none i) marked) ∙ fun_ext (λ key. by (is_lock l key.0) (marked key)))
  where
    by : (b : Bool) (x : Option ℕ) → cond b (either None x) x ≡ x
    by true x = refl
    by false x = refl

module _ (old : HeapTables) (agrees : IndexesAgree old) (l : LockName) (row : BTreeMap ThreadId ℕ) (waits marked : BTreeMap LockName (BTreeMap ThreadId ℕ)) (was : (u : ThreadId) → look thread_order row u ≡ in_row thread_order (look lock_order old.waits l) u) (first : look lock_order waits ≡ written (writes (is_at (lock_order l)) (λ _. None)) (look lock_order old.waits)) (second : look_in lock_order thread_order marked ≡ moved l (look thread_order row) (look_in lock_order thread_order old.marked)) where
  -- the waits that are not marked, without those of the lock
  others : (key : LockName × ThreadId) → look_in lock_order thread_order waits key ≡ cond (is_lock l key.0) None (look_in lock_order thread_order old.waits key)
  others key = (λ i. in_row thread_order (first i key.0) key.1) ∙ ((λ i. in_row thread_order (or_old (cond (lock_at l key.0 i) (Some None) None) (look lock_order old.waits key.0)) key.1) ∙ by (is_lock l key.0))
    where
      by : (b : Bool) → in_row thread_order (or_old (cond b (Some None) None) (look lock_order old.waits key.0)) key.1 ≡ cond b None (look_in lock_order thread_order old.waits key)
      by true = refl
      by false = refl

  -- the row has the waits on the lock
  row_is : (key : LockName × ThreadId) → is_lock l key.0 ≡ true → look thread_order row key.1 ≡ look_in lock_order thread_order old.waits key
  row_is key e = was key.1 ∙ ap (λ m. in_row thread_order (look lock_order old.waits m) key.1) (sym (same_lock l key.0 e))

  all_asleep : (λ key. either (look_in lock_order thread_order waits key) (look_in lock_order thread_order marked key)) ≡ (state_of old).asleep
  all_asleep = fun_ext (λ key. (λ i. either (others key i) (second i key)) ∙ by key (is_lock l key.0) refl)
    where
      by : (key : LockName × ThreadId) (b : Bool) → is_lock l key.0 ≡ b → either (cond b None (look_in lock_order thread_order old.waits key)) (cond b (either (look thread_order row key.1) (look_in lock_order thread_order old.marked key)) (look_in lock_order thread_order old.marked key)) ≡ either (look_in lock_order thread_order old.waits key) (look_in lock_order thread_order old.marked key)
      by key true e = ap (λ x. either x (look_in lock_order thread_order old.marked key)) (row_is key e)
      by key false e = refl

  all_marked : (λ key. is_some (look_in lock_order thread_order marked key)) ≡ written (writes (λ key. is_lock l key.0 && is_some ((state_of old).asleep key)) (λ _. true)) (state_of old).marked
  all_marked = fun_ext (λ key. (λ i. is_some (second i key)) ∙ by key (is_lock l key.0) refl)
    where
      one : (x y : Option ℕ) → is_some (either x y) ≡ or_old (cond (is_some (either x y)) (Some true) None) (is_some y)
      one None None = refl
      one None (Some y) = refl
      one (Some x) y = refl

      by : (key : LockName × ThreadId) (b : Bool) → is_lock l key.0 ≡ b → is_some (cond b (either (look thread_order row key.1) (look_in lock_order thread_order old.marked key)) (look_in lock_order thread_order old.marked key)) ≡ or_old (cond (b && is_some ((state_of old).asleep key)) (Some true) None) ((state_of old).marked key)
      by key true e = ap (λ x. is_some (either x (look_in lock_order thread_order old.marked key))) (row_is key e) ∙ one (look_in lock_order thread_order old.waits key) (look_in lock_order thread_order old.marked key)
      by key false e = refl

  pub mark_all_state : state_of (record old { waits = waits; marked = marked }) ≡ apply (notifies_all l (state_of old)) (state_of old)
  mark_all_state = λ i. record (state_of old) { asleep = all_asleep i; marked = all_marked i }

  pub mark_all_agrees : IndexesAgree (record old { waits = waits; marked = marked })
  mark_all_agrees = record {
    held = agrees.held;
    waiting = λ m u. agrees.waiting m u ∙ sym (ap (λ f. is_some (f (m, u))) all_asleep);
    apart = λ m u. (λ i. is_some (others (m, u) i) && is_some (second i (m, u))) ∙ by m u (is_lock l m);
    listed = λ m u e. agrees.listed m u (ap (λ f. is_some ((state_of old).monitors (m, u)) || is_some (f (m, u))) (sym all_asleep) ∙ e);
  }
    where
      by : (m : LockName) (u : ThreadId) (b : Bool) → (is_some (cond b None (look_in lock_order thread_order old.waits (m, u))) && is_some (cond b (either (look thread_order row u) (look_in lock_order thread_order old.marked (m, u))) (look_in lock_order thread_order old.marked (m, u)))) ≡ false
      by m u true = refl
      by m u false = agrees.apart m u

-- A thread that leaves all monitors and waits in the tables.
use Rattle.std.proofs.Common.{ℕ, ◌≡◌, refl, sym, ◌∙◌, ap, Bool, true, false, cond, ◌&&◌, is_some, Option, Some, None}
use Rattle.std.proofs.Math.Path.{fun_ext}
use Rattle.std.specs.Option.{option_map}
use Rattle.std.specs.BTreeMap.{BTreeMap, is_at}
use Rattle.dso_base.specs.declared.lock.LockName.{LockName}
use Rattle.dso_base.specs.declared.lock.ThreadId.{ThreadId}
use Rattle.dso_base.specs.Following.{is_thread}
use Rattle.dso_plain.specs.declared.tables.Hold as table
use Rattle.dso_plain.specs.declared.tables.HeapTables.{HeapTables}
use Rattle.dso_plain.specs.KeyTests.{is_lock}
use Rattle.dso_lookup.specs.Maps.{writes, or_old, written, look}
use Rattle.dso_lookup.specs.Rows.{look_in, in_row, is_at_pair}
use Rattle.dso_plain.specs.Changes.{dropped, without, Mirrors}
use Rattle.dso_lookup.specs.Orders.{lock_order, thread_order}
use Rattle.dso_plain.specs.HeapTables.{hold_of, either, state_of}
use Rattle.dso_plain.proofs.keys.SameKeys.{same_lock, same_thread}
use Rattle.dso_plain.proofs.keys.TableOrders.{place_at, lock_at, thread_at}

-- one lock of the row dropped
pub one_dropped : {V : Type 0} (l : LockName) (t : ThreadId) (row row' : LockName → Option (Unit {0})) (table table' : LockName × ThreadId → Option V) → is_some (row l) ≡ true → row' ≡ written (writes (is_at (lock_order l)) (λ _. None)) row → table' ≡ written (writes (is_at_pair lock_order thread_order l t) (λ _. None)) table → dropped t row' table' ≡ dropped t row table
one_dropped l t row row' table table' was first second = fun_ext (λ key. (λ i. dropped t (first i) (second i) key) ∙ ((λ i. cond (is_thread t key.1 && is_some (or_old (cond (lock_at l key.0 i) (Some None) None) (row key.0))) None (or_old (cond (place_at l t key i) (Some None) None) (table key))) ∙ by key (is_thread t key.1) (is_lock l key.0) refl))
  where
    by : (key : LockName × ThreadId) (a b : Bool) → is_lock l key.0 ≡ b → cond (a && is_some (or_old (cond b (Some None) None) (row key.0))) None (or_old (cond (b && a) (Some None) None) (table key)) ≡ cond (a && is_some (row key.0)) None (table key)
    by key true true e = sym (ap (λ c. cond c None (table key)) (ap (λ m. is_some (row m)) (same_lock l key.0 e) ∙ was))
    by key true false e = refl
    by key false true e = refl
    by key false false e = refl

-- nothing is left of the row
pub none_dropped : {V : Type 0} (t : ThreadId) (row : LockName → Option (Unit {0})) (table : LockName × ThreadId → Option V) → row ≡ (λ _. None) → table ≡ dropped t row table
none_dropped {V} t row table none = sym ((λ i. dropped t (none i) table) ∙ fun_ext (λ key. by (is_thread t key.1) (table key)))
  where
    by : (a : Bool) (x : Option V) → cond (a && false) None x ≡ x
    by true x = refl
    by false x = refl

gone_where : {A : Type 0} (y : Option A) → is_some y ≡ false → y ≡ None
gone_where None h = refl
gone_where (Some y) h = absurd (cc h)

-- what the row does not have is not there
clears : {A B : Type 0} (g : Option A → Option B) (none : g None ≡ None) (a : Bool) (r : Option (Unit {0})) (x : Option A) → (a ≡ true → is_some r ≡ is_some (g x)) → g (cond (a && is_some r) None x) ≡ or_old (cond a (Some None) None) (g x)
clears g none true (Some r) x e = none
clears g none true None x e = gone_where (g x) (sym (e refl))
clears g none false r x e = refl

module _ (old : HeapTables) (mirrors : Mirrors old) (t : ThreadId) (held' : BTreeMap ThreadId (BTreeMap LockName (Unit {0}))) (held_row : BTreeMap LockName (Unit {0})) (holds' : BTreeMap LockName (BTreeMap ThreadId table.Hold)) (waiting' : BTreeMap ThreadId (BTreeMap LockName (Unit {0}))) (waiting_row : BTreeMap LockName (Unit {0})) (waits' marked' : BTreeMap LockName (BTreeMap ThreadId ℕ))
    (row_held : (l : LockName) → look lock_order held_row l ≡ in_row lock_order (look thread_order old.held t) l) (gone_held : look thread_order held' ≡ written (writes (is_at (thread_order t)) (λ _. None)) (look thread_order old.held)) (drops_holds : look_in lock_order thread_order holds' ≡ dropped t (look lock_order held_row) (look_in lock_order thread_order old.holds))
    (row_waiting : (l : LockName) → look lock_order waiting_row l ≡ in_row lock_order (look thread_order old.waiting t) l) (gone_waiting : look thread_order waiting' ≡ written (writes (is_at (thread_order t)) (λ _. None)) (look thread_order old.waiting)) (drops_waits : look_in lock_order thread_order waits' ≡ dropped t (look lock_order waiting_row) (look_in lock_order thread_order old.waits)) (drops_marked : look_in lock_order thread_order marked' ≡ dropped t (look lock_order waiting_row) (look_in lock_order thread_order old.marked)) where
  monitors_cleared : (λ key. option_map hold_of (look_in lock_order thread_order holds' key)) ≡ written (writes (λ key. is_thread t key.1) (λ _. None)) (state_of old).monitors
  monitors_cleared = fun_ext (λ key. (λ i. option_map hold_of (drops_holds i key)) ∙ clears (λ x. option_map hold_of x) refl (is_thread t key.1) (look lock_order held_row key.0) (look_in lock_order thread_order old.holds key) (λ e. ap (λ x. is_some x) (row_held key.0) ∙ (mirrors.held key.0 t ∙ ap (λ u. is_some ((state_of old).monitors (key.0, u))) (sym (same_thread t key.1 e)))))

  asleep_cleared : (λ key. either (look_in lock_order thread_order waits' key) (look_in lock_order thread_order marked' key)) ≡ written (writes (λ key. is_thread t key.1) (λ _. None)) (state_of old).asleep
  asleep_cleared = fun_ext (λ key. (λ i. either (drops_waits i key) (drops_marked i key)) ∙ (together (is_thread t key.1 && is_some (look lock_order waiting_row key.0)) (look_in lock_order thread_order old.waits key) (look_in lock_order thread_order old.marked key) ∙ clears (λ x. x) refl (is_thread t key.1) (look lock_order waiting_row key.0) ((state_of old).asleep key) (λ e. ap (λ x. is_some x) (row_waiting key.0) ∙ (mirrors.waiting key.0 t ∙ ap (λ u. is_some ((state_of old).asleep (key.0, u))) (sym (same_thread t key.1 e))))))
    where
      together : (c : Bool) (x y : Option ℕ) → either (cond c None x) (cond c None y) ≡ cond c None (either x y)
      together true x y = refl
      together false x y = refl

  marked_cleared : (λ key. is_some (look_in lock_order thread_order marked' key)) ≡ written (writes (λ key. is_thread t key.1) (λ _. false)) (state_of old).marked
  marked_cleared = fun_ext (λ key. (λ i. is_some (drops_marked i key)) ∙ by (is_thread t key.1) (look lock_order waiting_row key.0) (look_in lock_order thread_order old.waits key) (look_in lock_order thread_order old.marked key) (λ e. ap (λ x. is_some x) (row_waiting key.0) ∙ (mirrors.waiting key.0 t ∙ ap (λ u. is_some ((state_of old).asleep (key.0, u))) (sym (same_thread t key.1 e)))))
    where
      by : (a : Bool) (r : Option (Unit {0})) (x y : Option ℕ) → (a ≡ true → is_some r ≡ is_some (either x y)) → is_some (cond (a && is_some r) None y) ≡ or_old (cond a (Some false) None) (is_some y)
      by true (Some r) x y e = refl
      by true None None None e = refl
      by true None None (Some y) e = absurd (cc (e refl))
      by true None (Some x) y e = absurd (cc (e refl))
      by false r x y e = refl

  pub clear_state : state_of (record old { holds = holds'; held = held'; waits = waits'; marked = marked'; waiting = waiting' }) ≡ without (is_thread t) (state_of old)
  clear_state = λ i. record (state_of old) { monitors = monitors_cleared i; asleep = asleep_cleared i; marked = marked_cleared i }

  row_gone : (index index' : BTreeMap ThreadId (BTreeMap LockName (Unit {0}))) → look thread_order index' ≡ written (writes (is_at (thread_order t)) (λ _. None)) (look thread_order index) → (l : LockName) (u : ThreadId) → look_in thread_order lock_order index' (u, l) ≡ cond (is_thread t u) None (look_in thread_order lock_order index (u, l))
  row_gone index index' gone l u = (λ i. in_row lock_order (gone i u) l) ∙ ((λ i. in_row lock_order (or_old (cond (thread_at t u i) (Some None) None) (look thread_order index u)) l) ∙ by (is_thread t u))
    where
      by : (b : Bool) → in_row lock_order (or_old (cond b (Some None) None) (look thread_order index u)) l ≡ cond b None (look_in thread_order lock_order index (u, l))
      by true = refl
      by false = refl

  same_after : {A B : Type 0} (b : Bool) (x : Option A) (y : Option B) → is_some x ≡ is_some y → is_some (cond b None x) ≡ is_some (or_old (cond b (Some None) None) y)
  same_after true x y e = refl
  same_after false x y e = e

  pub clear_mirrors : Mirrors (record old { holds = holds'; held = held'; waits = waits'; marked = marked'; waiting = waiting' })
  clear_mirrors = record {
    held = λ l u. ap (λ x. is_some x) (row_gone old.held held' gone_held l u) ∙ (same_after (is_thread t u) (look_in thread_order lock_order old.held (u, l)) ((state_of old).monitors (l, u)) (mirrors.held l u) ∙ sym (ap (λ f. is_some (f (l, u))) monitors_cleared));
    waiting = λ l u. ap (λ x. is_some x) (row_gone old.waiting waiting' gone_waiting l u) ∙ (same_after (is_thread t u) (look_in thread_order lock_order old.waiting (u, l)) ((state_of old).asleep (l, u)) (mirrors.waiting l u) ∙ sym (ap (λ f. is_some (f (l, u))) asleep_cleared));
    apart = λ l u. (λ i. is_some (drops_waits i (l, u)) && is_some (drops_marked i (l, u))) ∙ apart_after (is_thread t u && is_some (look lock_order waiting_row l)) (look_in lock_order thread_order old.waits (l, u)) (look_in lock_order thread_order old.marked (l, u)) (mirrors.apart l u);
  }
    where
      apart_after : (c : Bool) (x y : Option ℕ) → (is_some x && is_some y) ≡ false → (is_some (cond c None x) && is_some (cond c None y)) ≡ false
      apart_after true x y e = refl
      apart_after false x y e = e

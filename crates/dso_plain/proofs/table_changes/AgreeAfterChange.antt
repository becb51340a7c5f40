-- HeapTables that agree still do after a hold or a wait was changed in each.
use Rattle.std.proofs.Common.{ℕ, ◌≡◌, refl, sym, ◌∙◌, ap, Bool, true, false, cond, ◌&&◌, is_some, Option, Some, None}
use Rattle.std.specs.Option.{option_map}
use Rattle.std.specs.Ordering.{nat_cmp}
use Rattle.std.specs.BTreeMap.{is_at}
use Rattle.dso_base.specs.declared.lock.LockName.{LockName}
use Rattle.dso_base.specs.declared.lock.ThreadId.{ThreadId}
use Rattle.dso_base.specs.Following.{is_thread}
use Rattle.dso_plain.specs.declared.tables.Hold as table
use Rattle.dso_plain.specs.KeyTests.{is_lock, is_place}
use Rattle.dso_lookup.specs.Maps.{writes, or_old, written}
use Rattle.dso_lookup.specs.Rows.{is_at_pair}
use Rattle.dso_lookup.specs.Orders.{lock_order, thread_order}
use Rattle.dso_plain.specs.HeapTables.{hold_of}
use Rattle.dso_plain.proofs.keys.SameKeys.{number_self, thread_self}
use Rattle.dso_lookup.proofs.Tests.{number_at}
use Rattle.dso_plain.proofs.keys.TableOrders.{place_at, thread_at, lock_at}
use Rattle.dso_plain.proofs.keys.Writes.{through}

-- both tests in the other order
swapped : (a b : Bool) → (a && b) ≡ (b && a)
swapped true true = refl
swapped true false = refl
swapped false true = refl
swapped false false = refl

-- a thread with a lock is another
pub turned_at : (l : LockName) (t : ThreadId) (key : ThreadId × LockName) → is_at_pair thread_order lock_order t l key ≡ is_place l t (key.1, key.0)
turned_at l t key = ap (λ b. b && is_at (lock_order l) key.1) (thread_at t key.0) ∙ (ap (λ b. is_thread t key.0 && b) (lock_at l key.1) ∙ swapped (is_thread t key.0) (is_lock l key.1))

some_either_way : {A B : Type 0} (b : Bool) (new : Option A) (other : Option B) (x : Option A) (y : Option B) → is_some new ≡ is_some other → is_some x ≡ is_some y → is_some (or_old (cond b (Some new) None) x) ≡ is_some (or_old (cond b (Some other) None) y)
some_either_way true new other x y e f = e
some_either_way false new other x y e f = f

-- two functions, of lock and thread and of thread and lock, that tell the same after a change of both
pub still_same : {A B : Type 0} (l : LockName) (t : ThreadId) (new : Option A) (other : Option B) (f f' : ThreadId × LockName → Option A) (g g' : LockName × ThreadId → Option B) → is_some new ≡ is_some other → f' ≡ written (writes (is_at_pair thread_order lock_order t l) (λ _. new)) f → g' ≡ written (writes (is_place l t) (λ _. other)) g → ((m : LockName) (u : ThreadId) → is_some (f (u, m)) ≡ is_some (g (m, u))) → (m : LockName) (u : ThreadId) → is_some (f' (u, m)) ≡ is_some (g' (m, u))
still_same l t new other f f' g g' e first second same m u = ap (λ h. is_some (h (u, m))) first ∙ (ap (λ b. is_some (or_old (cond b (Some new) None) (f (u, m)))) (turned_at l t (u, m)) ∙ (some_either_way (is_place l t (m, u)) new other (f (u, m)) (g (m, u)) e (same m u) ∙ sym (ap (λ h. is_some (h (m, u))) second)))

-- the lists of threads with one thread more
module _ (t : ThreadId) (f f' : ℕ × ThreadId → Option (Unit {0})) (puts : f' ≡ written (writes (is_at_pair nat_cmp thread_order t.client t) (λ _. Some tt)) f) where
  listed_by : (b : Bool) (x : Option (Unit {0})) → is_some x ≡ true → is_some (or_old (cond b (Some (Some tt)) None) x) ≡ true
  listed_by true x e = refl
  listed_by false x e = e

  -- who was listed is still listed
  pub stays_listed : (u : ThreadId) → is_some (f (u.client, u)) ≡ true → is_some (f' (u.client, u)) ≡ true
  stays_listed u e = ap (λ h. is_some (h (u.client, u))) puts ∙ listed_by (is_at_pair nat_cmp thread_order t.client t (u.client, u)) (f (u.client, u)) e

  -- and the one is
  pub now_listed : is_some (f' (t.client, t)) ≡ true
  now_listed =
      let here : is_at_pair nat_cmp thread_order t.client t (t.client, t) ≡ true = λ i. ((number_at t.client t.client ∙ number_self t.client) i && (thread_at t t ∙ thread_self t) i) in
      ap (λ h. is_some (h (t.client, t))) puts ∙ ap (λ b. is_some (or_old (cond b (Some (Some tt)) None) (f (t.client, t)))) here

-- the holds of the state after a change of one
pub holds_changed : (l : LockName) (t : ThreadId) (new : Option table.Hold) (f f' : LockName × ThreadId → Option table.Hold) → f' ≡ written (writes (is_at_pair lock_order thread_order l t) (λ _. new)) f → (λ key. option_map hold_of (f' key)) ≡ written (writes (is_place l t) (λ _. option_map hold_of new)) (λ key. option_map hold_of (f key))
holds_changed l t new f f' e = through (λ x. option_map hold_of x) (is_at_pair lock_order thread_order l t) (is_place l t) new f f' (place_at l t) e

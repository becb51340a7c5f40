-- Where the orders of the tables take two keys for the same.
use Rattle.std.proofs.Common.{ℕ, ◌≡◌, refl, ◌∙◌, Bool, true, false, eqb, ◌&&◌}
use Rattle.std.specs.declared.cmp.Ordering.{Ordering}
use Rattle.std.specs.declared.cmp.Ordering.TheVariants.{Less, Equal, Greater}
use Rattle.std.specs.Ordering.{is_eq, nat_cmp, ordering_then}
use Rattle.std.specs.BTreeMap.{is_at}
use Rattle.dso_base.specs.declared.lock.LockName.{LockName}
use Rattle.dso_base.specs.declared.lock.LockName.TheVariants.{Mon, Name}
use Rattle.dso_base.specs.declared.lock.ThreadId.{ThreadId}
use Rattle.dso_base.specs.Following.{is_thread}
use Rattle.dso_plain.specs.KeyTests.{is_lock, is_field, is_place, is_view}
use Rattle.dso_lookup.specs.Rows.{is_at_pair}
use Rattle.dso_lookup.proofs.Tests.{number_at}
use Rattle.dso_lookup.specs.Orders.{lock_order, thread_order}
use Rattle.dso_plain.specs.HeapTables.{field_order, view_order}

-- two orders one after the other take for the same what both take for the same
both_equal : (a b : Ordering) → is_eq (ordering_then a b) ≡ (is_eq a && is_eq b)
both_equal Less b = refl
both_equal Equal b = refl
both_equal Greater b = refl

-- two pairs of tests that tell the same
both_tests : {a b c d : Bool} → a ≡ c → b ≡ d → (a && b) ≡ (c && d)
both_tests p q = λ i. p i && q i

-- one thread is another
pub thread_at : (t key : ThreadId) → is_at (thread_order t) key ≡ is_thread t key
thread_at t key = both_equal (nat_cmp t.client key.client) (nat_cmp t.index key.index) ∙ both_tests (number_at t.client key.client) (number_at t.index key.index)

-- one lock is another
pub lock_at : (l key : LockName) → is_at (lock_order l) key ≡ is_lock l key
lock_at (Mon o) (Mon key) = number_at o key
lock_at (Name o) (Name key) = number_at o key
lock_at (Mon o) (Name key) = refl
lock_at (Name o) (Mon key) = refl

-- one field is another
pub field_at : (o f : ℕ) (key : ℕ × ℕ) → is_at (field_order (o, f)) key ≡ is_field o f key
field_at o f key = both_equal (nat_cmp o key.0) (nat_cmp f key.1) ∙ both_tests (number_at o key.0) (number_at f key.1)

-- one view is another
pub view_at : (t : ThreadId) (o f : ℕ) (key : ThreadId × ℕ × ℕ) → is_at (view_order (t, o, f)) key ≡ is_view t o f key
view_at t o f key = both_equal (ordering_then (thread_order t key.0) (nat_cmp o key.1)) (nat_cmp f key.2) ∙ (both_tests (both_equal (thread_order t key.0) (nat_cmp o key.1) ∙ both_tests (thread_at t key.0) (number_at o key.1)) (number_at f key.2) ∙ regrouped (is_thread t key.0) (eqb key.1 o) (eqb key.2 f))
  where
    regrouped : (a b c : Bool) → ((a && b) && c) ≡ (a && (b && c))
    regrouped true b c = refl
    regrouped false b c = refl

-- one lock with a thread is another
pub place_at : (l : LockName) (t : ThreadId) (key : LockName × ThreadId) → is_at_pair lock_order thread_order l t key ≡ is_place l t key
place_at l t key = both_tests (lock_at l key.0) (thread_at t key.1)

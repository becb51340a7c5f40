-- What a test of a lock, a thread or a place tells, and what is written at one place.
use Rattle.std.proofs.Common.{ℕ, ◌≡◌, refl, sym, ◌∙◌, ap, Bool, true, false, cond, Some, None}
use Rattle.std.proofs.Math.Path.{fun_ext}
use Rattle.std.proofs.lemmas.Bool.{eqb-true}
use Rattle.std.specs.BTreeMap.{is_at}
use Rattle.std.specs.Ordering.{is_eq, nat_cmp, ordering_then}
use Rattle.std.specs.declared.cmp.Ordering.{Ordering}
use Rattle.std.specs.declared.cmp.Ordering.TheVariants.{Less, Equal, Greater}
use Rattle.dso_base.specs.declared.lock.LockName.{LockName}
use Rattle.dso_base.specs.declared.lock.LockName.TheVariants.{Mon, Name}
use Rattle.dso_base.specs.declared.lock.ThreadId.{ThreadId}
use Rattle.dso_lookup.specs.Orders.{lock_order, thread_order}
use Rattle.dso_hold.specs.Holds.{is_place}
use Rattle.dso_lookup.specs.Maps.{writes, or_old, written}
use Rattle.dso_lookup.proofs.Tests.{both, number_at}

-- one number is another where their order is equal
same_number : (a b : ℕ) → is_eq (nat_cmp a b) ≡ true → b ≡ a
same_number a b e = eqb-true b a (sym (number_at a b) ∙ e)

-- two orders one after the other take for the same what both take for the same
both_equal : (a b : Ordering) → is_eq (ordering_then a b) ≡ true → (is_eq a ≡ true) × (is_eq b ≡ true)
both_equal Less b e = absurd (cc e)
both_equal Equal b e = (refl, e)
both_equal Greater b e = absurd (cc e)

-- the key is that lock
pub same_lock : (l key : LockName) → is_at (lock_order l) key ≡ true → key ≡ l
same_lock (Mon o) (Mon key) e = ap (λ n. Mon n) (same_number o key e)
same_lock (Name n) (Name key) e = ap (λ n. Name n) (same_number n key e)
same_lock (Mon o) (Name key) e = absurd (cc e)
same_lock (Name n) (Mon key) e = absurd (cc e)

-- the key is that thread
pub same_thread : (t key : ThreadId) → is_at (thread_order t) key ≡ true → key ≡ t
same_thread t key e =
    let h = both_equal (nat_cmp t.client key.client) (nat_cmp t.index key.index) e in
    λ i. record { client = same_number t.client key.client h.0 i; index = same_number t.index key.index h.1 i }

-- the key is that lock with that thread
pub same_place : (l : LockName) (t : ThreadId) (key : LockName × ThreadId) → is_place l t key ≡ true → key ≡ (l, t)
same_place l t key e =
    let h = both (is_at (lock_order l) key.0) (is_at (thread_order t) key.1) e in
    λ i. (same_lock l key.0 h.0 i, same_thread t key.1 h.1 i)

-- at the place stands what is written there, elsewhere what stood there
pub one_written : {V : Type 0} (P : V → Type 0) (l : LockName) (t : ThreadId) (v : V) (old : LockName × ThreadId → V) (key : LockName × ThreadId) → (key ≡ (l, t) → P v) → P (old key) → P (written (writes (is_place l t) (λ _. v)) old key)
one_written P l t v old key there was = by (is_place l t key) refl
  where
    by : (b : Bool) → is_place l t key ≡ b → P (or_old (cond b (Some v) None) (old key))
    by true e = there (same_place l t key e)
    by false e = was

-- what stands at a place can be written there again
pub written_again : {V : Type 0} (l : LockName) (t : ThreadId) (v : V) (old : LockName × ThreadId → V) → old (l, t) ≡ v → written (writes (is_place l t) (λ _. v)) old ≡ old
written_again l t v old is = fun_ext (λ key. one_written (λ x. x ≡ old key) l t v old key (λ e. sym is ∙ ap old (sym e)) refl)

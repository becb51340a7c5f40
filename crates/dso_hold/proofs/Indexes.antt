-- The tables by lock and by thread agree after a change of both at one place.
use Rattle.std.proofs.Common.{◌≡◌, refl, sym, ◌∙◌, ap, Bool, true, false, cond, ◌&&◌, is_some, Option, Some, None}
use Rattle.std.proofs.Math.Path.{fun_ext}
use Rattle.std.specs.BTreeMap.{BTreeMap, is_at}
use Rattle.dso_base.specs.declared.lock.LockName.{LockName}
use Rattle.dso_base.specs.declared.lock.ThreadId.{ThreadId}
use Rattle.dso_hold.specs.declared.held.Held.{Held}
use Rattle.dso_hold.specs.declared.tables.HoldTables.{HoldTables}
use Rattle.dso_lookup.specs.Orders.{lock_order, thread_order}
use Rattle.dso_hold.specs.Holds.{hold_in, is_place, with_hold}
use Rattle.dso_hold.specs.HoldTables.{IndexesAgree}
use Rattle.dso_hold.proofs.Places.{one_written, written_again}
use Rattle.dso_lookup.specs.Maps.{writes, or_old, written}
use Rattle.dso_lookup.specs.Rows.{look_in, is_at_pair}

-- both tests in the other order
swapped : (a b : Bool) → (a && b) ≡ (b && a)
swapped true true = refl
swapped true false = refl
swapped false true = refl
swapped false false = refl

-- the table by thread, as a function
locks_in : BTreeMap ThreadId (BTreeMap LockName (Unit {0})) → ThreadId × LockName → Option (Unit {0})
locks_in by_thread = look_in thread_order lock_order by_thread

-- the two tell the same after a change of both at one place
both_changed : (l : LockName) (t : ThreadId) (lock : Option (Unit {0})) (held : Option Held) (f f' : ThreadId × LockName → Option (Unit {0})) (g g' : LockName × ThreadId → Option Held) → is_some lock ≡ is_some held → f' ≡ written (writes (is_at_pair thread_order lock_order t l) (λ _. lock)) f → g' ≡ with_hold l t held g → ((m : LockName) (u : ThreadId) → is_some (f (u, m)) ≡ is_some (g (m, u))) → (m : LockName) (u : ThreadId) → is_some (f' (u, m)) ≡ is_some (g' (m, u))
both_changed l t lock held f f' g g' alike first second same m u = ap (λ h. is_some (h (u, m))) first ∙ (ap (λ b. is_some (or_old (cond b (Some lock) None) (f (u, m)))) (swapped (is_at (thread_order t) u) (is_at (lock_order l) m)) ∙ (by (is_place l t (m, u)) ∙ sym (ap (λ h. is_some (h (m, u))) second)))
  where
    by : (b : Bool) → is_some (or_old (cond b (Some lock) None) (f (u, m))) ≡ is_some (or_old (cond b (Some held) None) (g (m, u)))
    by true = alike
    by false = same m u

module _ (old new : HoldTables) (agree : IndexesAgree old) (l : LockName) (t : ThreadId) where
  -- nothing changed
  pub agree_same : look_in thread_order lock_order new.by_thread ≡ look_in thread_order lock_order old.by_thread → hold_in new ≡ hold_in old → IndexesAgree new
  agree_same threads locks = record { listed = λ m u. ap (λ f. is_some (f (u, m))) threads ∙ (agree.listed m u ∙ sym (ap (λ g. is_some (g (m, u))) locks)) }

  -- a hold was put into both, or taken out of both
  pub agree_both : (lock : Option (Unit {0})) (held : Option Held) → is_some lock ≡ is_some held → look_in thread_order lock_order new.by_thread ≡ written (writes (is_at_pair thread_order lock_order t l) (λ _. lock)) (look_in thread_order lock_order old.by_thread) → hold_in new ≡ with_hold l t held (hold_in old) → IndexesAgree new
  agree_both lock held alike threads locks = record { listed = both_changed l t lock held (look_in thread_order lock_order old.by_thread) (look_in thread_order lock_order new.by_thread) (hold_in old) (hold_in new) alike threads locks agree.listed }

  -- a hold that is there was changed
  pub agree_change : (held : Held) → is_some (hold_in old (l, t)) ≡ true → new.by_thread ≡ old.by_thread → hold_in new ≡ with_hold l t (Some held) (hold_in old) → IndexesAgree new
  agree_change held there threads locks = record { listed = λ m u. ap (λ rows. is_some (look_in thread_order lock_order rows (u, m))) threads ∙ (agree.listed m u ∙ (one_written (λ x. is_some (hold_in old (m, u)) ≡ is_some x) l t (Some held) (hold_in old) (m, u) (λ e. ap (λ key. is_some (hold_in old key)) e ∙ there) refl ∙ sym (ap (λ g. is_some (g (m, u))) locks))) }

  -- a hold that was put into the table by thread was taken out again
  pub agree_undone : (mid : ThreadId × LockName → Option (Unit {0})) → hold_in old (l, t) ≡ None → mid ≡ written (writes (is_at_pair thread_order lock_order t l) (λ _. Some tt)) (look_in thread_order lock_order old.by_thread) → look_in thread_order lock_order new.by_thread ≡ written (writes (is_at_pair thread_order lock_order t l) (λ _. None)) mid → hold_in new ≡ hold_in old → IndexesAgree new
  agree_undone mid absent put gone locks = agree_both None None refl (gone ∙ (ap (λ f. written (writes (is_at_pair thread_order lock_order t l) (λ _. None)) f) put ∙ fun_ext (λ key. by (is_at_pair thread_order lock_order t l key) (look_in thread_order lock_order old.by_thread key)))) (locks ∙ sym (written_again l t None (hold_in old) absent))
    where
      by : (b : Bool) (x : Option (Unit {0})) → or_old (cond b (Some None) None) (or_old (cond b (Some (Some tt)) None) x) ≡ or_old (cond b (Some None) None) x
      by true x = refl
      by false x = refl

-- Whom the notifications of a block wake, by how many of each list are gone.
use Rattle.std.proofs.Common.{ℕ, zero, suc, ◌+◌, ◌≡◌, refl, sym, ◌∙◌, ap, Bool, true, false, cond, Some, None, List, [], ◌∷◌, drop, arith}
use Rattle.std.proofs.Math.Path.{fun_ext}
use Rattle.std.specs.BTreeMap.{BTreeMap, is_at}
use Rattle.std.specs.Option.{unwrap_or}
use Rattle.dso_base.specs.declared.lock.LockName.{LockName}
use Rattle.dso_base.specs.declared.lock.ThreadId.{ThreadId}
use Rattle.dso_base.specs.declared.record.Choice.{Choice}
use Rattle.dso_lookup.specs.Maps.{written, writes, or_old, look}
use Rattle.dso_plain.specs.KeyTests.{is_lock}
use Rattle.dso_lookup.specs.Orders.{lock_order}
use Rattle.dso_plain.proofs.keys.SameKeys.{same_lock}
use Rattle.dso_plain.proofs.keys.TableOrders.{lock_at}
use Rattle.dso_law.specs.ServerWaiters.{waiters_left, lists_after}
use Rattle.dso_legal.specs.JournalPassTables.{lists_left}

-- the lists after more of one of them are gone
pub more_gone : (lists : LockName → List ThreadId) (lock : LockName) (choice : Choice) (n : ℕ) (old new : BTreeMap LockName ℕ) → look lock_order new ≡ written (writes (is_at (lock_order lock)) (λ _. Some n)) (look lock_order old)
    → drop n (lists lock) ≡ waiters_left choice (lists_left lists old lock) → lists_left lists new ≡ lists_after lock choice (lists_left lists old)
more_gone lists lock choice n old new puts left = fun_ext (λ l. ap (λ f. drop (unwrap_or (f l) 0) (lists l)) puts ∙ (ap (λ b. drop (unwrap_or (or_old (cond b (Some (Some n)) None) (look lock_order old l)) 0) (lists l)) (lock_at lock l) ∙ by l (is_lock lock l) refl))
  where
    by : (l : LockName) (b : Bool) → is_lock lock l ≡ b → drop (unwrap_or (or_old (cond b (Some (Some n)) None) (look lock_order old l)) 0) (lists l) ≡ cond b (waiters_left choice (lists_left lists old l)) (lists_left lists old l)
    by l true h = ap (λ k. drop n (lists k)) (same_lock lock l h) ∙ (left ∙ sym (ap (λ k. waiters_left choice (lists_left lists old k)) (same_lock lock l h)))
    by l false h = refl

-- one more of a list is gone
next_gone : (list : List ThreadId) (n : ℕ) → drop (suc n) list ≡ drop 1 (drop n list)
next_gone [] zero = refl
next_gone [] (suc n) = refl
next_gone (t ∷ list) zero = refl
next_gone (t ∷ list) (suc n) = next_gone list n

-- the same, by a sum
pub one_gone : (list : List ThreadId) (n : ℕ) → drop (n + 1) list ≡ drop 1 (drop n list)
one_gone list n =
    let next : n + 1 ≡ suc n = omega arith in
    ap (λ m. drop m list) next ∙ next_gone list n

-- How often locks are held, once a hold was changed.
use Rattle.std.proofs.Common.{◌≡◌, ℕ, ◌+◌, ◌-◌, ◌≤◌, sym, subst, arith, Bool, true, false, cond, Option, Some, None}
use Rattle.std.specs.Prelude.{ltb}
use Rattle.dso_base.specs.declared.lock.Level.{Level}
use Rattle.dso_base.specs.declared.lock.LockName.{LockName}
use Rattle.dso_base.specs.declared.lock.ThreadId.{ThreadId}
use Rattle.dso_hold.specs.declared.held.Enter.{Enter}
use Rattle.dso_hold.specs.declared.held.Enter.TheVariants.{Entered, LockUpgrade, Blocked}
use Rattle.dso_hold.specs.declared.held.Held.{Held}
use Rattle.dso_hold.specs.declared.tables.HoldTables.{HoldTables}
use Rattle.dso_hold.specs.Holds.{hold_in, with_hold, is_place, count_at, entered, exited, IsAnswer}
use Rattle.dso_lookup.specs.Maps.{or_old}
use Rattle.dso_client.specs.ActEffects.{CountsAtMost}

-- the holds with one of them changed
pub counts_with : (n : ℕ) (l : LockName) (t : ThreadId) (held : Option Held) (old new : HoldTables) → hold_in new ≡ with_hold l t held (hold_in old) → CountsAtMost n old → count_at held ≤ n → CountsAtMost n new
counts_with n l t held old new is most fits u x = subst (λ holds. count_at (holds (x, u)) ≤ n) (sym is) (by (is_place l t (x, u)))
  where
    by : (b : Bool) → count_at (or_old (cond b (Some held) None) (hold_in old (x, u))) ≤ n
    by true = fits
    by false = most u x

-- what is as it was
pub counts_same : (n : ℕ) (old new : HoldTables) → hold_in new ≡ hold_in old → CountsAtMost n old → CountsAtMost n new
counts_same n old new is most u x = subst (λ holds. count_at (holds (x, u)) ≤ n) (sym is) (most u x)

-- an exit leaves no more
pub count_exited : (n k : ℕ) (held : Option Held) → count_at held ≤ n → count_at (exited k held) ≤ n
count_exited n k None h = h
count_exited n k (Some held) h = by (ltb k held.count)
  where
    by : (b : Bool) → count_at (cond b (Some (record held { count = held.count - k })) None) ≤ n
    by true = omega (arith, h)
    by false = omega arith

-- so many entries count so many more
count_entered : (n k : ℕ) (level : Level) (held : Option Held) → count_at held + k ≤ n → count_at (Some (entered level k held)) ≤ n
count_entered n k level None h = omega (arith, h)
count_entered n k level (Some held) h = h

-- an answer to so many entries
pub counts_answered : (n k : ℕ) (t : ThreadId) (l : LockName) (level : Level) (old new : HoldTables) (enter : Enter) → IsAnswer t l level k (hold_in old) (hold_in new) enter → CountsAtMost n old
    → count_at (hold_in old (l, t)) + k ≤ n → CountsAtMost n new
counts_answered n k t l level old new Entered answer most fits = counts_with n l t (Some (entered level k (hold_in old (l, t)))) old new answer.2 most (count_entered n k level (hold_in old (l, t)) fits)
counts_answered n k t l level old new LockUpgrade answer most fits = counts_same n old new answer.1 most
counts_answered n k t l level old new (Blocked w) answer most fits = counts_same n old new answer.2 most

-- where nothing is held, only what is added counts
pub none_held : (most n count : ℕ) → count ≡ 0 → n ≤ most → count + n ≤ most
none_held most n count none few = omega (arith, none, few)

-- What entries and exits answer, and that the tables still agree.
use Rattle.std.proofs.Common.{ℕ, ◌≡◌, sym, ◌∙◌, ap, subst, true, false, is_some, Option, Some, None}
use Rattle.std.specs.Option.{option_map_or}
use Rattle.dso_base.specs.declared.lock.Level.{Level}
use Rattle.dso_base.specs.declared.lock.Level.TheVariants.{Read}
use Rattle.dso_base.specs.declared.lock.LockName.{LockName}
use Rattle.dso_base.specs.declared.lock.ThreadId.{ThreadId}
use Rattle.dso_hold.specs.declared.held.Enter.TheVariants.{Entered}
use Rattle.dso_hold.specs.declared.held.Held.{Held}
use Rattle.dso_hold.specs.declared.tables.HoldTables.{HoldTables}
use Rattle.dso_hold.specs.Holds.{hold_in, with_hold, excludes, is_lower, is_upgrade, entered, entered_again, NoConflict, IsAnswer}
use Rattle.dso_hold.specs.HoldTables.{IndexesAgree, IsExclusive, HoldsAgree}
use Rattle.dso_hold.proofs.Exclusion.{exclusive_changed, no_conflict_within}

-- tables that list by thread what they have by lock, where that is exclusive
pub agree_as : (new : HoldTables) (holds : LockName × ThreadId → Option Held) → hold_in new ≡ holds → IsExclusive holds → IndexesAgree new → HoldsAgree new
agree_as new holds is alone indexes = record { indexes = indexes; exclusive = subst (λ h. IsExclusive h) (sym is) alone }

module _ (old new : LockName × ThreadId → Option Held) (l : LockName) (t : ThreadId) where
  -- a thread that didn't hold the lock has entered
  pub first_answer : (own : Held) → old (l, t) ≡ None → NoConflict t l own.level old → new ≡ with_hold l t (Some own) old → IsAnswer t l own.level own.count old new Entered
  first_answer own absent none is = (ap (λ held. is_upgrade own.level held) absent, none, is ∙ ap (λ held. with_hold l t (Some (entered own.level own.count held)) old) (sym absent))

  -- a thread that holds the lock has entered again
  pub again_answer : (own : Held) (level : Level) (n : ℕ) → IsExclusive old → old (l, t) ≡ Some own → is_lower level own ≡ false → new ≡ with_hold l t (Some (entered_again n own)) old → IsAnswer t l level n old new Entered
  again_answer own level n alone there fits is = (ap (λ held. is_upgrade level held) there ∙ fits, no_conflict_within old alone l t own level there fits, is ∙ ap (λ held. with_hold l t (Some (entered level n held)) old) (sym there))

-- a hold with another count is as exclusive
pub exclusive_counted : (holds : LockName × ThreadId → Option Held) (alone : IsExclusive holds) (l : LockName) (t : ThreadId) (own : Held) (n : ℕ) → holds (l, t) ≡ Some own → IsExclusive (with_hold l t (Some (record own { count = n })) holds)
exclusive_counted holds alone l t own n there = exclusive_changed holds alone l t (Some (record own { count = n })) (λ _. ap (λ held. is_some held) there) (λ w. ap (λ held. option_map_or (excludes Read) held false) there ∙ w)

-- without a hold the others are as exclusive
pub exclusive_without : (holds : LockName × ThreadId → Option Held) (alone : IsExclusive holds) (l : LockName) (t : ThreadId) → IsExclusive (with_hold l t None holds)
exclusive_without holds alone l t = exclusive_changed holds alone l t None (λ e. absurd (cc e)) (λ e. absurd (cc e))

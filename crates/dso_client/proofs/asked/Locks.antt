-- The locks and the ids once a thread asked for what it lacks.
use Rattle.std.proofs.Common.{◌≡◌, ℕ, refl, sym, ◌∙◌, ap, Bool, true, false, cond, Option, Some, None}
use Rattle.std.specs.Option.{option_map}
use Rattle.dso_base.specs.declared.lock.Level.{Level}
use Rattle.dso_base.specs.declared.lock.LockName.{LockName}
use Rattle.dso_base.specs.declared.message.Up.TheVariants as up
use Rattle.dso_hold.specs.Holds.{hold_in}
use Rattle.dso_lease.specs.declared.standing.LeaseStanding.TheVariants as standings
use Rattle.dso_lease.specs.Leases.{standing_in, with_standing, after_want}
use Rattle.dso_plain.specs.KeyTests.{is_lock}
use Rattle.dso_plain.proofs.keys.SameKeys.{same_lock}
use Rattle.dso_law.specs.Leases.{standing, leased, is_entered, is_recalled, is_asked_for}
use Rattle.dso_client.specs.declared.lock_state.LockState.{LockState}
use Rattle.dso_client.specs.AskedActs.{asked}
use Rattle.dso_client.specs.LockStateStands.{LockStateStands, as_hold, standing_as, list_at}
use Rattle.dso_client.specs.RunPoints.{RunPoint}
use Rattle.dso_client.proofs.heard.Locks.{at_lock}

-- a lock that is neither leased nor asked for is idle
pub idle : (level : Option Level) (entered recalled waits : Bool) → level ≡ None → waits ≡ false → standing_as level entered recalled waits ≡ None
idle (Some level) entered recalled waits e f = absurd (cc e)
idle None entered recalled true e f = absurd (cc f)
idle None entered recalled false e f = refl

-- one that isn't leased and is asked for now
pub asks_now : (level : Option Level) (entered recalled : Bool) → level ≡ None → Some standings.Asked ≡ standing_as level entered recalled true
asks_now (Some level) entered recalled e = absurd (cc e)
asks_now None entered recalled e = refl

module _ (clock index : ℕ) (at : RunPoint) (l : LockName) (level : Level) (old new : LockState) (h : LockStateStands at old) where
  pub lock_asked : leased l at.entries ≡ None → is_asked_for l at.entries ≡ false → new.holds ≡ old.holds → new.lists ≡ old.lists
      → standing_in new.leases ≡ with_standing l (Some (after_want level (standing_in old.leases l))) (standing_in old.leases)
      → LockStateStands (asked clock index (up.Request l level) at) new
  lock_asked unleased unasked held lists wanted = record {
    holds = λ t x. ap (λ holds. option_map as_hold (hold_in holds (x, t))) held ∙ h.holds t x;
    leases = λ x. ap (λ leases. leases x) wanted ∙ (at_lock l (Some (after_want level (standing_in old.leases l))) (standing_in old.leases) x ∙ by x (is_lock x l) refl);
    lists = λ x. ap (λ lists. list_at lists x) lists ∙ h.lists x;
  }
    where
      was : standing_in old.leases l ≡ None
      was = h.leases l ∙ idle (leased l at.entries) (is_entered l at.entries) (is_recalled l at.entries) (is_asked_for l at.entries) unleased unasked

      by : (x : LockName) (b : Bool) → is_lock x l ≡ b → cond b (Some (after_want level (standing_in old.leases l))) (standing_in old.leases x)
          ≡ standing_as (cond b (record (standing x at.entries) { is_asked = true }) (standing x at.entries)).lease (is_entered x at.entries) (is_recalled x at.entries)
          (cond b (record (standing x at.entries) { is_asked = true }) (standing x at.entries)).is_asked
      by x true e = ap (λ s. Some (after_want level s)) was
          ∙ asks_now (leased x at.entries) (is_entered x at.entries) (is_recalled x at.entries) (ap (λ k. leased k at.entries) (sym (same_lock x l e)) ∙ unleased)
      by x false e = h.leases x

-- How a lock stands with the client, read back.
use Rattle.std.proofs.Common.{◌≡◌, refl, ◌∙◌, ap, Bool, true, false, ◌&&◌, is_some, Option, Some, None}
use Rattle.dso_base.specs.declared.lock.Level.{Level}
use Rattle.dso_base.specs.declared.lock.LockName.{LockName}
use Rattle.dso_lease.specs.Leases.{standing_in, was_entered}
use Rattle.dso_law.specs.Leases.{leased, is_entered, is_recalled, is_asked_for}
use Rattle.dso_client.specs.declared.lock_state.LockState.{LockState}
use Rattle.dso_client.specs.LockStateStands.{LockStateStands, standing_as}
use Rattle.dso_client.specs.RunPoints.{RunPoint}

-- whether a lease was entered since its grant
entered_so : (entered recalled : Bool) (level : Option Level) (asked : Bool)
    → was_entered (standing_as level entered recalled asked) ≡ (is_some level && entered)
entered_so entered recalled (Some level) asked = refl
entered_so entered recalled None true = refl
entered_so entered recalled None false = refl

pub entered_told : (at : RunPoint) (lock_state : LockState) → LockStateStands at lock_state → (l : LockName)
    → was_entered (standing_in lock_state.leases l) ≡ (is_some (leased l at.entries) && is_entered l at.entries)
entered_told at lock_state h l = ap was_entered (h.leases l)
    ∙ entered_so (is_entered l at.entries) (is_recalled l at.entries) (leased l at.entries) (is_asked_for l at.entries)

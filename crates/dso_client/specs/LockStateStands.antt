-- What a client keeps of its locks stands for its entries.
use Rattle.std.specs.Prelude.{◌≡◌, Bool, true, false, Option, Some, None, List, []}
use Rattle.std.specs.BTreeMap.{BTreeMap}
use Rattle.std.specs.Option.{option_map, unwrap_or}
use Rattle.dso_base.specs.declared.lock.Level.{Level}
use Rattle.dso_base.specs.declared.lock.LockName.{LockName}
use Rattle.dso_base.specs.declared.lock.ThreadId.{ThreadId}
use Rattle.dso_plain.specs.State.{Hold}
use Rattle.dso_law.specs.Threads.{hold_of}
use Rattle.dso_law.specs.Leases.{leased, is_entered, is_recalled, is_asked_for}
use Rattle.dso_law.specs.ClientWaiters.{client_list}
use Rattle.dso_hold.specs.declared.held.Held.{Held}
use Rattle.dso_hold.specs.Holds.{hold_in}
use Rattle.dso_lease.specs.declared.standing.LeaseStanding.{LeaseStanding}
use Rattle.dso_lease.specs.declared.standing.LeaseStanding.TheVariants.{Asked, Leased}
use Rattle.dso_lease.specs.Leases.{standing_in}
use Rattle.dso_lookup.specs.Maps.{look}
use Rattle.dso_lookup.specs.Orders.{lock_order}
use Rattle.dso_client.specs.declared.lock_state.LockState.{LockState}
use Rattle.dso_client.specs.RunPoints.{RunPoint}

-- a hold, as the readings have it
abbrev pub as_hold : Held → Hold
as_hold held = record { level = held.level; count = held.count }

-- how a lock stands with the client: its lease, and whether it was entered and recalled since the grant; else whether
-- it is asked for
abbrev pub standing_as : Option Level → Bool → Bool → Bool → Option LeaseStanding
standing_as (Some level) entered recalled asked =
    Some (Leased (record { level = level; is_entered = entered; is_closing = recalled }))
standing_as None entered recalled true = Some Asked
standing_as None entered recalled false = None

-- the waiters of a lock, none where it has no list
abbrev pub list_at : BTreeMap LockName (List ThreadId) → LockName → List ThreadId
list_at lists l = unwrap_or (look lock_order lists l) []

-- Of each thread and lock the hold; of each lock its lease, and its list of waiters.
pub record LockStateStands (at : RunPoint) (lock_state : LockState) : Type 0 where
  pub holds : (t : ThreadId) (l : LockName)
      → option_map as_hold (hold_in lock_state.holds (l, t)) ≡ hold_of t l at.entries
  pub leases : (l : LockName) → standing_in lock_state.leases l
      ≡ standing_as (leased l at.entries) (is_entered l at.entries) (is_recalled l at.entries)
      (is_asked_for l at.entries)
  pub lists : (l : LockName) → list_at lock_state.lists l ≡ client_list l at.entries

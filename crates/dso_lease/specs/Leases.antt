-- How locks stand with a client, and which entries a lease admits.
use Rattle.std.specs.Prelude.{Bool, true, false, cond, not, ◌&&◌, ◌||◌, is_some, Option, Some, None}
use Rattle.std.specs.BTreeMap.{is_at}
use Rattle.std.specs.declared.cmp.Ordering.{Ordering}
use Rattle.std.specs.Option.{option_map_or}
use Rattle.dso_base.specs.declared.lock.Level.{Level}
use Rattle.dso_base.specs.declared.lock.Level.TheVariants.{Read, Write}
use Rattle.dso_base.specs.declared.lock.LockName.{LockName}
use Rattle.dso_lease.specs.declared.leases.Leases.{Leases}
use Rattle.dso_lease.specs.declared.standing.Lease.{Lease}
use Rattle.dso_lease.specs.declared.standing.LeaseStanding.{LeaseStanding}
use Rattle.dso_lease.specs.declared.standing.LeaseStanding.TheVariants.{Asked, Leased}
use Rattle.dso_lease.specs.declared.standing.Want.{Want}
use Rattle.dso_lease.specs.declared.standing.Want.TheVariants.{Held, Ask, Waiting, Closing}
use Rattle.dso_lookup.specs.Orders.{lock_order}
use Rattle.dso_lookup.specs.Maps.{look, writes, written}

-- how each lock stands, None where it is neither leased nor asked for
abbrev pub standing_in : Leases → LockName → Option LeaseStanding
standing_in leases = look lock_order leases.locks

-- the locks with another standing of this one
abbrev pub with_standing : LockName → Option LeaseStanding → (LockName → Option LeaseStanding) → LockName
    → Option LeaseStanding
with_standing l new locks = written (writes (is_at (lock_order l)) (λ _. new)) locks

-- the first level is at least the second
abbrev pub suffices : Level → Level → Bool
suffices Write wanted = true
suffices Read Read = true
suffices Read Write = false

-- A lease of at least the level admits every inner entry, by a thread that holds the lock. It admits an outer one where
-- it isn't closing, or wasn't entered since its grant.
abbrev pub admits : Level → Bool → Lease → Bool
admits level inner lease = suffices lease.level level && (inner || (not lease.is_closing || not lease.is_entered))

-- what a thread is told that wants to enter a lock that isn't idle
abbrev pub answer_of : Level → Bool → LeaseStanding → Want
answer_of level inner Asked = Waiting
answer_of level inner (Leased lease) = cond (admits level inner lease) Held Closing

-- what a thread is told that wants to enter the lock: an idle one is to be asked for
abbrev pub answer : Level → Bool → Option LeaseStanding → Want
answer level inner None = Ask level
answer level inner (Some standing) = answer_of level inner standing

-- a lease of a lower level than a thread wants is closing
abbrev pub wanted : Level → LeaseStanding → LeaseStanding
wanted level Asked = Asked
wanted level (Leased lease) = Leased
    (record lease { is_closing = lease.is_closing || not (suffices lease.level level) })

-- the lock once a thread wanted it: an idle one is asked for
abbrev pub after_want : Level → Option LeaseStanding → LeaseStanding
after_want level None = Asked
after_want level (Some standing) = wanted level standing

-- the lock once a thread entered it
abbrev pub entered : LeaseStanding → LeaseStanding
entered Asked = Asked
entered (Leased lease) = Leased (record lease { is_entered = true })

-- the lock once its lease was recalled
abbrev pub recalled : LeaseStanding → LeaseStanding
recalled Asked = Asked
recalled (Leased lease) = Leased (record lease { is_closing = true })

-- the lock once it was granted
abbrev pub granted_at : Level → LeaseStanding
granted_at level = Leased (record { level = level; is_entered = false; is_closing = false })

-- a lease is to be given back where it is closing and entered and the lock is free
abbrev pub is_due : Bool → LeaseStanding → Bool
is_due is_free Asked = false
is_due is_free (Leased lease) = lease.is_closing && (lease.is_entered && is_free)

-- so for a lock that may be idle
abbrev pub is_returned : Bool → Option LeaseStanding → Bool
is_returned is_free None = false
is_returned is_free (Some standing) = is_due is_free standing

-- the lock was asked for
abbrev pub is_asked : Option LeaseStanding → Bool
is_asked (Some Asked) = true
is_asked standing = false

-- the lease of the lock, if there is one
abbrev pub lease_of : Option LeaseStanding → Option Lease
lease_of (Some (Leased lease)) = Some lease
lease_of standing = None

-- there is a lease
abbrev pub is_leased : Option LeaseStanding → Bool
is_leased standing = is_some (lease_of standing)

-- there is a lease that was entered since its grant
abbrev pub was_entered : Option LeaseStanding → Bool
was_entered standing = option_map_or (λ lease. lease.is_entered) (lease_of standing) false

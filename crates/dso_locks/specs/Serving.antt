-- How a lock is served: what is sent on the way, and how the lock stands then.
use Rattle.std.specs.BTreeMap.{BTreeMap}
use Rattle.std.specs.BTreeSet.{contains}
use Rattle.std.specs.Ordering.{nat_cmp}
use Rattle.std.specs.Prelude.{ℕ, ◌≡◌, false, cond, not, eqb, ◌&&◌, Option, Some, List, [], ◌∷◌, ◌++◌, flat_map}
use Rattle.dso_base.specs.declared.journal.Sent.{Sent}
use Rattle.dso_base.specs.declared.lock.Level.{Level}
use Rattle.dso_base.specs.declared.lock.LockName.{LockName}
use Rattle.dso_law.specs.Entries.{by_sent_down}
use Rattle.dso_law.specs.Granting.{LeaseTable, Waiter}
use Rattle.dso_law.specs.RequestNeeds.{conflicts}
use Rattle.dso_law.specs.Settings.{Settings}
use Rattle.dso_locks.specs.declared.lock.Lock.{Lock}
use Rattle.dso_locks.specs.Locks.{LockState, told_to, IsWithin, serves}
use Rattle.dso_lookup.specs.Maps.{look}
use Rattle.dso_plain.specs.KeyTests.{is_lock}

-- the leases and recalls of a lock
abbrev pub leases_in : Lock → LeaseTable
leases_in lock = record { lease = look nat_cmp lock.leases; recalled = contains nat_cmp lock.recalled }

-- how a lock stands
abbrev pub state_in : Lock → LockState
state_in lock = record { leases = leases_in lock; queue = lock.queue }

-- the client, where it has a lease and is another one than the request's, in conflict with it
abbrev pub against : Waiter → ℕ → Option Level → List ℕ
against waiter c lease = cond (not (eqb c waiter.client) && conflicts waiter.level lease) (c ∷ []) []

-- the clients of a table of leases that are against the request, by rising number
abbrev pub against_in : Waiter → BTreeMap ℕ Level → List ℕ
against_in waiter leases = flat_map (λ e. against waiter e.0 (Some e.1)) leases.entries

-- Messages sent: they are what was sent behind what was sent before, and make the one lock of the other.
pub record Sends (l : LockName) (messages : List Sent) (old new : LockState) (before after : List Sent) : Type 0 where
  pub sent : after ≡ before ++ messages
  pub stands : new ≡ by_sent_down (told_to l) messages old

-- A lock served, from what was sent before on: what is sent is what the rule sends, it makes the one lock of the other,
-- and is nothing to other locks.
pub record IsServed (l : LockName) (old now : LockState) (before sent : List Sent) : Type 0 where
  pub sends : (p : Settings) → IsWithin p old → sent ≡ before ++ serves p l old
  pub leaves : (start : LockState) → by_sent_down (told_to l) before start ≡ old
      → by_sent_down (told_to l) sent start ≡ now
  pub others : (k : LockName) → is_lock k l ≡ false → (start : LockState)
      → by_sent_down (told_to k) sent start ≡ by_sent_down (told_to k) before start

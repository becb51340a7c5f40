-- A client's lease of a lock, in all that its rule asks of it, and as it is kept from entry to entry.
use Rattle.std.specs.List.{list_any}
use Rattle.std.specs.Prelude.{ℕ, Bool, true, false, cond, not, ◌&&◌, ◌||◌, Option, Some, None, List}
use Rattle.std.specs.Option.{option_map}
use Rattle.dso_base.specs.declared.journal.Entry.{Entry}
use Rattle.dso_base.specs.declared.lock.Level.{Level}
use Rattle.dso_base.specs.declared.lock.LockName.{LockName}
use Rattle.dso_base.specs.declared.lock.ThreadId.{ThreadId}
use Rattle.dso_base.specs.declared.message.Down.{Down}
use Rattle.dso_base.specs.declared.message.Down.TheVariants as down
use Rattle.dso_base.specs.declared.request.Event.{Event}
use Rattle.dso_base.specs.declared.request.Request.{Request}
use Rattle.dso_plain.specs.KeyTests.{is_lock}
use Rattle.dso_law.specs.Settings.{Settings, threads_of}
use Rattle.dso_law.specs.Threads.{is_local}
use Rattle.dso_law.specs.Leases.{leased, is_entered, is_recalled, entered_by}
use Rattle.dso_law.specs.Closing.{is_read, awaits_write, is_closing}

-- a lease: its level, whether the lock was entered since its grant, and whether it is closing
pub record Lease : Type 0 where
  pub level : Level
  pub is_entered : Bool
  pub is_closing : Bool

-- The next request of each thread is an argument.
module _ (p : Settings) (c : ℕ) (next : ThreadId → Option Request) where
  -- The lease of the lock, None where there is none: what was entered or recalled under a lease that was given back
  -- counts no more.
  abbrev pub lease_of : LockName → List Entry → Option Lease
  lease_of l es = option_map
      (λ level. record { level = level; is_entered = is_entered l es; is_closing = is_closing p c next l es })
      (leased l es)

  -- the thread wants the lease at Write: it awaits the lock at Write, and the lock isn't the monitor of an object that
  -- is private to it, which it enters without a lease
  abbrev pub awaits_lease : LockName → List Entry → ThreadId → Bool
  awaits_lease l es t = not (is_local p.shape t l es) && awaits_write p c next l es t

  -- closing until it is given back: recalled since its grant, or of level Read where a thread wants it at Write
  abbrev pub stays_closing : LockName → List Entry → Bool
  stays_closing l es = is_recalled l es || (is_read (leased l es) && list_any (awaits_lease l es) (threads_of p c))

  -- the lease of the lock with that in place of closing
  abbrev pub kept_lease : LockName → List Entry → Option Lease
  kept_lease l es = option_map
      (λ level. record { level = level; is_entered = is_entered l es; is_closing = stays_closing l es }) (leased l es)

-- a grant begins a lease, a recall closes it
abbrev pub lease_by_taken : LockName → Down → Option Lease → Option Lease
lease_by_taken l (down.Grant k level) lease = cond (is_lock l k)
    (Some (record { level = level; is_entered = false; is_closing = false })) lease
lease_by_taken l (down.Recall k) lease = cond (is_lock l k)
    (option_map (λ (s : Lease). record s { is_closing = true }) lease) lease
lease_by_taken l m lease = lease

-- an entry of the lock enters it
abbrev pub lease_by_event : LockName → Event → Option Lease → Option Lease
lease_by_event l event lease = option_map
    (λ (s : Lease). record s { is_entered = entered_by l event s.is_entered }) lease

-- where a thread wants it at Write, a lease of level Read closes
abbrev pub lease_by_wants : Bool → Option Lease → Option Lease
lease_by_wants wanted lease = option_map
    (λ (s : Lease). record s { is_closing = s.is_closing || (is_read (Some s.level) && wanted) }) lease

-- a lease that is given back is gone
abbrev pub lease_by_return : Bool → Option Lease → Option Lease
lease_by_return returned lease = cond returned None lease

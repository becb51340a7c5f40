-- Which of a client's leases are closing, which let a thread in, and which are to be given back.
use Rattle.std.specs.List.{list_any}
use Rattle.std.specs.Prelude.{ℕ, Bool, true, false, not, ◌&&◌, ◌||◌, is_none, Option, Some, None, List, filter}
use Rattle.dso_base.specs.declared.journal.Entry.{Entry}
use Rattle.dso_base.specs.declared.lock.Level.{Level}
use Rattle.dso_base.specs.declared.lock.Level.TheVariants.{Read, Write}
use Rattle.dso_base.specs.declared.lock.LockName.{LockName}
use Rattle.dso_base.specs.declared.lock.ThreadId.{ThreadId}
use Rattle.dso_base.specs.declared.request.Request.{Request}
use Rattle.dso_base.specs.declared.request.Request.TheVariants.{New, Look, Get, Put, Enter, Exit, Wait, Tick, Timeout}
use Rattle.dso_base.specs.declared.request.Request.TheVariants.{Resume, Notify, NotifyAll, Print, End, Pause, Settle}
use Rattle.dso_plain.specs.KeyTests.{is_lock}
use Rattle.dso_law.specs.Settings.{Settings, threads_of}
use Rattle.dso_law.specs.Threads.{hold_of}
use Rattle.dso_law.specs.Leases.{leased, is_entered, is_recalled, leased_locks}
use Rattle.dso_law.specs.ClientWaiters.{is_marked}

-- the request is for the lock at Write: an Enter at Write, or a Resume of a thread that is marked
abbrev pub wants_write : LockName → Bool → Option Request → Bool
wants_write l marked None = false
wants_write l marked (Some (New class n)) = false
wants_write l marked (Some (Look o)) = false
wants_write l marked (Some (Get o f)) = false
wants_write l marked (Some (Put o f v)) = false
wants_write l marked (Some (Enter k Read)) = false
wants_write l marked (Some (Enter k Write)) = is_lock l k
wants_write l marked (Some (Exit k)) = false
wants_write l marked (Some (Wait k)) = false
wants_write l marked (Some (Tick k)) = false
wants_write l marked (Some (Timeout k)) = false
wants_write l marked (Some (Resume k)) = is_lock l k && marked
wants_write l marked (Some (Notify k)) = false
wants_write l marked (Some (NotifyAll k)) = false
wants_write l marked (Some (Print v)) = false
wants_write l marked (Some (End fault)) = false
wants_write l marked (Some Pause) = false
wants_write l marked (Some Settle) = false

-- whether the level is Read
abbrev pub is_read : Option Level → Bool
is_read (Some Read) = true
is_read level = false

-- The next request of each thread is an argument.
module _ (p : Settings) (c : ℕ) (next : ThreadId → Option Request) where
  -- the thread doesn't hold the lock, and its next request is for it at Write
  abbrev pub awaits_write : LockName → List Entry → ThreadId → Bool
  awaits_write l es t = is_none (hold_of t l es) && wants_write l (is_marked t es) (next t)

  -- Closing: since its grant a recall of the lock was taken, or the lease's level is Read and a thread of the client
  -- that doesn't hold the lock next wants it at Write.
  abbrev pub is_closing : LockName → List Entry → Bool
  is_closing l es = is_recalled l es || (is_read (leased l es) && list_any (awaits_write l es) (threads_of p c))

  -- The lease admits an outer entry where it isn't closing or wasn't entered.
  abbrev pub admits : LockName → List Entry → Bool
  admits l es = not (is_closing l es) || not (is_entered l es)

  -- no thread of the client holds the lock
  abbrev pub is_free : LockName → List Entry → Bool
  is_free l es = not (list_any (λ t. not (is_none (hold_of t l es))) (threads_of p c))

  -- a lease is to be given back where it is closing and entered and no thread of the client holds the lock
  abbrev pub is_lease_due : LockName → List Entry → Bool
  is_lease_due l es = is_closing l es && (is_entered l es && is_free l es)

  -- the locks whose leases are to be given back, rising, monitors first
  abbrev pub due : List Entry → List LockName
  due es = filter (λ l. is_lease_due l es) (leased_locks es)

-- The locks that threads hold: each is within a lease of the thread's client, and no two threads hold one in conflict.
use Rattle.std.specs.Prelude.{ℕ, ◌≡◌, true, false, Option, Some, List}
use Rattle.dso_base.specs.declared.journal.Entry.{Entry}
use Rattle.dso_base.specs.declared.journal.Node.TheVariants.{Server, Client}
use Rattle.dso_base.specs.declared.lock.Level.{Level}
use Rattle.dso_base.specs.declared.lock.LockName.{LockName}
use Rattle.dso_base.specs.declared.lock.ThreadId.{ThreadId}
use Rattle.dso_base.specs.declared.request.Event.{Event}
use Rattle.dso_base.specs.declared.request.Request.{Request}
use Rattle.dso_base.specs.Following.{is_thread}
use Rattle.dso_plain.specs.State.{Hold}
use Rattle.dso_law.specs.Settings.{Settings}
use Rattle.dso_law.specs.Entries.{entries_of}
use Rattle.dso_law.specs.Threads.{hold_of}
use Rattle.dso_law.specs.Leases.{leased, is_entered}
use Rattle.dso_law.specs.RequestNeeds.{is_enough, conflicts}
use Rattle.dso_law.specs.ServerReadings.{is_lost, counted}
use Rattle.dso_law.specs.Granting.{leased_to}
use Rattle.dso_legal.specs.Lawful.{IsLawful}

-- By a client's entries it has a lease of the lock, of at least the hold's level, and the lease is entered.
pub record IsWithinLease (l : LockName) (hold : Hold) (client : List Entry) : Type 0 where
  pub enough : is_enough hold.level (leased l client) ≡ true
  pub entered : is_entered l client ≡ true

-- Holds are within leases: in a lawful journal, where a thread of a client holds a lock, the client has such a lease.
-- So it is at a lost client too.
abbrev pub HoldsAreWithinLeases : Type 0
HoldsAreWithinLeases = (p : Settings) (next : ThreadId → List Event → Option Request) (es : List Entry)
    → IsLawful p next es
    → (c : ℕ) (t : ThreadId) (l : LockName) (hold : Hold) → hold_of t l (entries_of (Client c) es) ≡ Some hold
    → IsWithinLease l hold (entries_of (Client c) es)

-- Leases are known: in a lawful journal, where a client that isn't lost has a lease, the server says that it has it.
abbrev pub LeasesAreKnown : Type 0
LeasesAreKnown = (p : Settings) (next : ThreadId → List Event → Option Request) (es : List Entry) → IsLawful p next es
    → (c : ℕ) (l : LockName) (level : Level) → is_lost c (entries_of Server es) ≡ false
    → leased l (entries_of (Client c) es) ≡ Some level
    → leased_to c l (counted (entries_of Server es)) ≡ Some level

-- Holds are compatible: in a lawful journal no two threads of clients that aren't lost hold a lock in conflict.
abbrev pub HoldsAreCompatible : Type 0
HoldsAreCompatible = (p : Settings) (next : ThreadId → List Event → Option Request) (es : List Entry)
    → IsLawful p next es
    → (t u : ThreadId) (l : LockName) (a b : Hold) → is_thread t u ≡ false
    → is_lost t.client (entries_of Server es) ≡ false → is_lost u.client (entries_of Server es) ≡ false
    → hold_of t l (entries_of (Client t.client) es) ≡ Some a → hold_of u l (entries_of (Client u.client) es) ≡ Some b
    → conflicts a.level (Some b.level) ≡ false

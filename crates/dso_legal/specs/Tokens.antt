-- Leases are tokens: what the client and the server say of a lock's lease is one thing, once all in flight is taken.
use Rattle.std.specs.List.{list_any}
use Rattle.std.specs.Prelude.{ℕ, ◌≡◌, ◌≢◌, true, false, eqb, Option, Some, None, List}
use Rattle.dso_base.specs.declared.journal.Entry.{Entry}
use Rattle.dso_base.specs.declared.journal.Node.TheVariants.{Server, Client}
use Rattle.dso_base.specs.declared.lock.Level.{Level}
use Rattle.dso_base.specs.declared.lock.LockName.{LockName}
use Rattle.dso_base.specs.declared.lock.ThreadId.{ThreadId}
use Rattle.dso_base.specs.declared.message.Down.{Down}
use Rattle.dso_base.specs.declared.message.Down.TheVariants as down
use Rattle.dso_base.specs.declared.message.Up.{Up}
use Rattle.dso_base.specs.declared.message.Up.TheVariants as up
use Rattle.dso_base.specs.declared.request.Event.{Event}
use Rattle.dso_base.specs.declared.request.Request.{Request}
use Rattle.dso_plain.specs.KeyTests.{is_lock}
use Rattle.dso_law.specs.declared.readings.LockStanding.{LockStanding}
use Rattle.dso_law.specs.Settings.{Settings}
use Rattle.dso_law.specs.Entries.{entries_of}
use Rattle.dso_law.specs.Channels.{up_in_flight, down_in_flight, IsFirst}
use Rattle.dso_law.specs.Leases.{idle, standing_up, standing_down, standing, is_asked_for}
use Rattle.dso_law.specs.RequestNeeds.{conflicts}
use Rattle.dso_law.specs.ServerReadings.{is_lost, counted}
use Rattle.dso_law.specs.Granting.{standing_with, leased_to, queue_of}
use Rattle.dso_legal.specs.Agreement.{messages, Agree}
use Rattle.dso_legal.specs.Lawful.{IsLawful}

-- asked for and not leased
abbrev pub asked : LockStanding
asked = record { lease = None; is_asked = true }

-- leased and not asked for
pub record IsLeased (s : LockStanding) : Type 0 where
  pub leased : s.lease ≢ None
  pub unasked : s.is_asked ≡ false

-- a request of the lock may come where it is idle, a return where it is leased
abbrev pub MayGoUp : LockName → Up → LockStanding → Type 0
MayGoUp l (up.Request k level) s = is_lock l k ≡ true → s ≡ idle
MayGoUp l (up.Return k threads) s = is_lock l k ≡ true → IsLeased s
MayGoUp l m s = Unit {0}

-- a grant of the lock may come where it is asked for
abbrev pub MayGoDown : LockName → Down → LockStanding → Type 0
MayGoDown l (down.Grant k level) s = is_lock l k ≡ true → s ≡ asked
MayGoDown l m s = Unit {0}

-- The client and the server agree on the lock: each request in flight to the server stands where the lock is idle,
-- each return where it is leased, each grant in flight to the client where it is asked for; once all is taken both
-- say the same.
abbrev pub AgreeOnLock : ℕ → LockName → List Entry → Type 0
AgreeOnLock c l es = Agree (MayGoUp l) (standing_up l) (MayGoDown l) (standing_down l) (messages (up_in_flight c es))
    (messages (down_in_flight c es))
    (standing_with c l (counted (entries_of Server es))) (standing l (entries_of (Client c) es))

-- Leases are tokens: in a lawful journal, for each client that isn't lost, both agree on each lock.
abbrev pub LeasesAreTokens : Type 0
LeasesAreTokens = (p : Settings) (next : ThreadId → List Event → Option Request) (es : List Entry) → IsLawful p next es
    → (c : ℕ) (l : LockName) → is_lost c (entries_of Server es) ≡ false → AgreeOnLock c l es

-- how a message fits, at the server, by its leases and queue: a request finds neither a lease nor a request of the
-- client, a return finds the lease
abbrev pub LeaseFitsUp : ℕ → Up → List Entry → Type 0
LeaseFitsUp c (up.Request l level) server = (leased_to c l server ≡ None)
    × (list_any (λ waiter. eqb waiter.client c) (queue_of l server) ≡ false)
LeaseFitsUp c (up.Return l threads) server = leased_to c l server ≢ None
LeaseFitsUp c m server = Unit {0}

-- and at the client: a grant was asked for
abbrev pub LeaseFitsDown : Down → List Entry → Type 0
LeaseFitsDown (down.Grant l level) client = is_asked_for l client ≡ true
LeaseFitsDown m client = Unit {0}

-- the first message in flight of a client in each direction fits
pub record FirstFits (c : ℕ) (es : List Entry) : Type 0 where
  pub ups : (m : Up) → IsFirst m (up_in_flight c es) → LeaseFitsUp c m (counted (entries_of Server es))
  pub downs : (m : Down) → IsFirst m (down_in_flight c es) → LeaseFitsDown m (entries_of (Client c) es)

-- Leases fit: in a lawful journal, for each client that isn't lost, the first message in flight in each direction
-- fits the leases of the end that takes it.
abbrev pub LeasesFit : Type 0
LeasesFit = (p : Settings) (next : ThreadId → List Event → Option Request) (es : List Entry) → IsLawful p next es
    → (c : ℕ) → is_lost c (entries_of Server es) ≡ false → FirstFits c es

-- Leases are compatible: in a lawful journal, of each lock the leases of two clients at the server don't conflict.
abbrev pub LeasesAreCompatible : Type 0
LeasesAreCompatible = (p : Settings) (next : ThreadId → List Event → Option Request) (es : List Entry)
    → IsLawful p next es
    → (c d : ℕ) (l : LockName) (level : Level) → eqb c d ≡ false
    → leased_to c l (counted (entries_of Server es)) ≡ Some level
    → conflicts level (leased_to d l (counted (entries_of Server es))) ≡ false

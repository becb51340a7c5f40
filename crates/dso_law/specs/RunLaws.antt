-- Laws of runs of one client.
use Rattle.std.specs.List.{list_any}
use Rattle.std.specs.Prelude.{ℕ, suc, ◌+◌, ◌*◌, ◌≤◌, ◌≡◌, true, false, cond, eqb, ltb, Option, Some, None, List, []}
use Rattle.std.specs.Prelude.{◌∷◌, length}
use Rattle.dso_base.specs.declared.journal.Entry.{Entry}
use Rattle.dso_base.specs.declared.journal.Input.TheVariants as input
use Rattle.dso_base.specs.declared.lock.Level.TheVariants.{Read}
use Rattle.dso_base.specs.declared.lock.LockName.{LockName}
use Rattle.dso_base.specs.declared.lock.ThreadId.{ThreadId}
use Rattle.dso_base.specs.declared.message.Down.TheVariants as down
use Rattle.dso_base.specs.declared.record.Txn.{Txn}
use Rattle.dso_base.specs.declared.request.Event.{Event}
use Rattle.dso_base.specs.declared.request.Request.{Request}
use Rattle.dso_plain.specs.KeyTests.{is_lock}
use Rattle.dso_law.specs.Settings.{Settings, batch_size, threads_of}
use Rattle.dso_law.specs.Entries.{unsent, by_taken_down, by_event}
use Rattle.dso_law.specs.Copies.{is_resident, is_object_asked}
use Rattle.dso_law.specs.Leases.{leased}
use Rattle.dso_law.specs.Records.{batches, made, made_by, is_batch_asked, records, unacked}
use Rattle.dso_law.specs.ChangeMarks.{AcksInOrder}
use Rattle.dso_law.specs.IdsAhead.{ids_from}
use Rattle.dso_law.specs.Closing.{due}
use Rattle.dso_law.specs.ClientStep.{ClientStep}
use Rattle.dso_law.specs.LeaseHeld.{Lease, awaits_lease, kept_lease, lease_by_taken, lease_by_event, lease_by_wants}
use Rattle.dso_law.specs.LeaseHeld.{lease_by_return}
use Rattle.dso_law.specs.ClientRun.{ClientRun, AreSameFor, next_in}

-- Own requests: the client rule looks at the next requests of the client's own threads alone.
abbrev pub OwnRequestsCount : Type 0
OwnRequestsCount = (p : Settings) (c : ℕ) (before other_before later other_later : ThreadId → Option Request)
    (e : Entry) (es : List Entry)
    → AreSameFor c before other_before → AreSameFor c later other_later
    → ClientStep p c before later e es → ClientStep p c other_before other_later e es

-- Quiet: in a run no lease is to be given back between two entries.
abbrev pub NothingIsDue : Type 0
NothingIsDue = (p : Settings) (c : ℕ) (next : ThreadId → List Event → Option Request) (es : List Entry)
    → ClientRun p c next es → due p c (next_in next es) es ≡ []

-- Awaiting: a thread that wants at Write a lease of level Read makes no act entry.
abbrev pub WhoAwaitsStays : Type 0
WhoAwaitsStays = (p : Settings) (c : ℕ) (before later : ThreadId → Option Request) (e : Entry) (es : List Entry)
    (t : ThreadId) (l : LockName) → ClientStep p c before later e es → eqb t.client c ≡ true → leased l es ≡ Some Read
    → awaits_lease p c before l es t ≡ true → e.input ≡ input.Act t.index → ⊥

-- Lasting: so it wants the lease after the entry, too.
abbrev pub WhoAwaitsGoesOn : Type 0
WhoAwaitsGoesOn = (p : Settings) (c : ℕ) (next : ThreadId → List Event → Option Request) (e : Entry) (es : List Entry)
    (t : ThreadId) (l : LockName) → ClientRun p c next (e ∷ es) → eqb t.client c ≡ true → leased l es ≡ Some Read
    → awaits_lease p c (next_in next es) l es t ≡ true → awaits_lease p c (next_in next (e ∷ es)) l (e ∷ es) t ≡ true

-- the lease of the lock after an entry: by the message taken, by the event, by who wants it then, and given back where
-- it is due
abbrev pub lease_after : Settings → ℕ → (ThreadId → List Event → Option Request) → LockName → Entry → List Entry
    → Option Lease
lease_after p c next l e es = lease_by_return (list_any (is_lock l) (due p c (next_in next (e ∷ es)) (unsent e ∷ es)))
    (lease_by_wants (list_any (awaits_lease p c (next_in next (e ∷ es)) l (e ∷ es)) (threads_of p c))
    (by_event (lease_by_event l) e.event
    (by_taken_down (lease_by_taken l) e.input (kept_lease p c (next_in next es) l es))))

-- Kept: in a run the lease of a lock that stays closing is kept from entry to entry.
abbrev pub LeasesAreKept : Type 0
LeasesAreKept = (p : Settings) (c : ℕ) (next : ThreadId → List Event → Option Request) (l : LockName) (e : Entry)
    (es : List Entry)
    → ClientRun p c next (e ∷ es) → kept_lease p c (next_in next (e ∷ es)) l (e ∷ es) ≡ lease_after p c next l e es

-- the records have the numbers behind k, one after the other
abbrev pub NumberedFrom : ℕ → List Txn → Type 0
NumberedFrom k [] = Unit {0}
NumberedFrom k (txn ∷ txns) = (txn.seq ≡ suc k) × NumberedFrom (suc k) txns

-- the records have consecutive numbers, the last of them n
pub record AreNumbered (txns : List Txn) (n : ℕ) : Type 0 where
  pub acked : ℕ
  pub numbers : NumberedFrom acked txns
  pub whole : acked + length txns ≡ n

-- Numbers: in a run the records that aren't acknowledged have consecutive numbers, up to the client's latest one.
abbrev pub RecordsAreNumbered : Type 0
RecordsAreNumbered = (p : Settings) (c : ℕ) (next : ThreadId → List Event → Option Request) (es : List Entry)
    → ClientRun p c next es → AreNumbered (unacked es) (records es)

-- Acknowledgements: so they are acknowledged in the order of their numbers, and the marks of objects tell of them.
abbrev pub RecordsAreAckedInOrder : Type 0
RecordsAreAckedInOrder = (p : Settings) (c : ℕ) (next : ThreadId → List Event → Option Request) (es : List Entry)
    → ClientRun p c next es → AcksInOrder es

-- Apart: in a run no object is both asked for and resident.
abbrev pub AskedIsAbsent : Type 0
AskedIsAbsent = (p : Settings) (c : ℕ) (next : ThreadId → List Event → Option Request) (es : List Entry) (o : ℕ)
    → ClientRun p c next es → is_object_asked o es ≡ true → is_resident o es ≡ false

-- what a client's entries tell of its ids: it made no more objects than it took ids; while a batch is asked for, it
-- made as many, so none is left
pub record IdsAreTaken (es : List Entry) : Type 0 where
  pub most : made es ≤ batch_size * length (batches es)
  pub all : is_batch_asked es ≡ true → made es ≡ batch_size * length (batches es)

-- Ids: so in a run.
abbrev pub IdsRunOut : Type 0
IdsRunOut = (p : Settings) (c : ℕ) (next : ThreadId → List Event → Option Request) (es : List Entry)
    → ClientRun p c next es → IdsAreTaken es

-- an entry whose event made an object
abbrev pub IsMaking : Option Event → Type 0
IsMaking None = ⊥
IsMaking (Some event) = made_by event 0 ≡ 1

-- the ids ahead, entry by entry: an object made takes the first of them; a batch that comes has found none left, and is
-- all that is ahead; any other entry leaves them
pub record IdsGoOn (e : Entry) (es : List Entry) : Type 0 where
  pub made_one : IsMaking e.event → (k : ℕ) → ids_from k (e ∷ es) ≡ ids_from (suc k) es
  pub batch : (first : ℕ) → e.input ≡ input.TookDown (down.Ids first) → (k : ℕ)
      → ids_from k (e ∷ es) ≡ cond (ltb k batch_size) (Some (first + k)) None
  pub otherwise : (IsMaking e.event → ⊥) → ((first : ℕ) → e.input ≡ input.TookDown (down.Ids first) → ⊥) → (k : ℕ)
      → ids_from k (e ∷ es) ≡ ids_from k es

-- Ids ahead: so at each entry of a run.
abbrev pub IdsAheadGoOn : Type 0
IdsAheadGoOn = (p : Settings) (c : ℕ) (next : ThreadId → List Event → Option Request) (e : Entry) (es : List Entry)
    → ClientRun p c next (e ∷ es) → IdsGoOn e es

-- Laws of what a client's core keeps: each reading in the words of the client rule.
use Rattle.std.specs.List.{list_any}
use Rattle.std.specs.Option.{option_map, option_map_or}
use Rattle.std.specs.Prelude.{ℕ, ◌+◌, ◌*◌, ◌<◌, ◌≡◌, cond, false, not, ltb, ◌&&◌, ◌||◌, is_some, Option, Some, None}
use Rattle.std.specs.Prelude.{List, [], ◌∷◌, ◌++◌, length, slice_get}
use Rattle.dso_base.specs.declared.journal.Entry.{Entry}
use Rattle.dso_base.specs.declared.lock.LockName.{LockName}
use Rattle.dso_base.specs.declared.lock.ThreadId.{ThreadId}
use Rattle.dso_base.specs.declared.record.Body.{Body}
use Rattle.dso_base.specs.declared.request.Request.{Request}
use Rattle.dso_law.specs.Settings.{Settings, batch_size, threads_of}
use Rattle.dso_law.specs.Copies.{is_resident, class_held, copy_of, residents}
use Rattle.dso_law.specs.Records.{id_at, next_id, unacked}
use Rattle.dso_law.specs.Replies.{class_of_body}
use Rattle.dso_law.specs.Leases.{leased}
use Rattle.dso_law.specs.Threads.{is_local}
use Rattle.dso_law.specs.Closing.{is_read, awaits_write, is_closing, admits, is_free, is_lease_due}
use Rattle.dso_law.specs.ClientStep.{changes_object}
use Rattle.dso_law.specs.HeldBody.{held_body}
use Rattle.dso_law.specs.ChangeMarks.{change_mark, last_change, AcksInOrder}
use Rattle.dso_law.specs.LeaseHeld.{Lease, lease_of, stays_closing}
use Rattle.dso_law.specs.IdsAhead.{ids_from}
use Rattle.dso_law.specs.ResidentCount.{presence, resident_count}

-- the body held of an object is there where the object is resident; it has the class and the size held, and the copy's
-- value of each field below that size
pub record TellsBody (o : ℕ) (es : List Entry) : Type 0 where
  pub resident : is_some (held_body o es) ≡ is_resident o es
  pub class : (body : Body) → held_body o es ≡ Some body → class_held o es ≡ Some (class_of_body body)
  pub fields : (body : Body) (f : ℕ) → held_body o es ≡ Some body → f < length body.values
      → copy_of o f es ≡ slice_get body.values f

-- Bodies: so of each object, whatever the entries are.
abbrev pub BodiesAreHeld : Type 0
BodiesAreHeld = (o : ℕ) (es : List Entry) → TellsBody o es

-- the mark of an object is the number of the last record not acknowledged that changes it: it is there where one does
pub record TellsMark (o : ℕ) (es : List Entry) : Type 0 where
  pub last : change_mark o es ≡ last_change o (unacked es)
  pub there : is_some (change_mark o es) ≡ list_any (changes_object o) (unacked es)

-- Marks: so of each object where records are acknowledged in the order of their numbers.
abbrev pub MarksTell : Type 0
MarksTell = (o : ℕ) (es : List Entry) → AcksInOrder es → TellsMark o es

-- the lease of a lock has the level leased; it admits an outer entry where it isn't closing or wasn't entered; and the
-- lock is to be given back where it has a lease that is closing and entered and no thread of the client holds it
pub record TellsLease (p : Settings) (c : ℕ) (next : ThreadId → Option Request) (l : LockName) (es : List Entry)
    : Type 0 where
  pub level : option_map (λ lease. lease.level) (lease_of p c next l es) ≡ leased l es
  pub admits_so : (lease : Lease) → lease_of p c next l es ≡ Some lease
      → admits p c next l es ≡ (not lease.is_closing || not lease.is_entered)
  pub due_so : (is_some (leased l es) && is_lease_due p c next l es) ≡ option_map_or
      (λ lease. lease.is_closing && (lease.is_entered && is_free p c next l es)) (lease_of p c next l es) false

-- Leases: so of each lock, whatever the entries are.
abbrev pub LeasesTell : Type 0
LeasesTell = (p : Settings) (c : ℕ) (next : ThreadId → Option Request) (l : LockName) (es : List Entry)
    → TellsLease p c next l es

-- Closing: a lease is closing where it stays so, or where it is of level Read and a thread awaits the lock at Write to
-- whom its monitor is private: which needs no lease, and may go on.
abbrev pub ClosingIsKept : Type 0
ClosingIsKept = (p : Settings) (c : ℕ) (next : ThreadId → Option Request) (l : LockName) (es : List Entry)
    → is_closing p c next l es ≡ (stays_closing p c next l es || (is_read (leased l es)
    && list_any (λ t. is_local p.shape t l es && awaits_write p c next l es t) (threads_of p c)))

-- Ids: the next object gets the first of the ids ahead. With one more batch the ids of those before it stay, and behind
-- them come those of the batch.
pub record IdsAreAhead : Type 0 where
  pub next : (es : List Entry) → ids_from 0 es ≡ next_id es
  pub stays : (batches : List ℕ) (first n : ℕ) → n < batch_size * length batches
      → id_at (batches ++ first ∷ []) n ≡ id_at batches n
  pub more : (batches : List ℕ) (first n : ℕ)
      → id_at (batches ++ first ∷ []) (batch_size * length batches + n)
      ≡ cond (ltb n batch_size) (Some (first + n)) None
  pub none : (batches : List ℕ) (n : ℕ) → id_at batches (batch_size * length batches + n) ≡ None

-- the objects counted are those resident, each once
pub record TellsCount (es : List Entry) : Type 0 where
  pub has : (o : ℕ) → (presence es).has o ≡ is_resident o es
  pub count : resident_count es ≡ length (residents es)

-- Counts: so whatever the entries are.
abbrev pub ResidentsAreCounted : Type 0
ResidentsAreCounted = (es : List Entry) → TellsCount es

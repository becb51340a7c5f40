-- A run over a store: which records its server has applied, and which of them a crash leaves. Entries stand with the
-- newest first, records with the first of them first.
use Rattle.std.specs.Prelude.{◌≡◌, ◌⊎◌, ℕ, ◌+◌, ◌<◌, ◌≤◌, ◌^◌, true, cond, List, [], ◌∷◌, ◌++◌, length, take}
use Rattle.std.specs.Prelude.{Option, Some, None}
use Rattle.std.specs.Option.{IfSome}
use Rattle.dso_base.specs.declared.journal.Entry.{Entry}
use Rattle.dso_base.specs.declared.journal.Input.TheVariants.{TookDown}
use Rattle.dso_base.specs.declared.journal.Node.TheVariants.{Server, Client}
use Rattle.dso_base.specs.declared.lock.ThreadId.{ThreadId}
use Rattle.dso_base.specs.declared.message.Down.TheVariants.{Ack}
use Rattle.dso_base.specs.declared.message.Up.{Up}
use Rattle.dso_base.specs.declared.message.Up.TheVariants as up
use Rattle.dso_base.specs.declared.record.Txn.{Txn}
use Rattle.dso_base.specs.declared.request.Event.{Event}
use Rattle.dso_base.specs.declared.request.Request.{Request}
use Rattle.dso_base.specs.declared.shape.Shape.{Shape}
use Rattle.dso_keep.specs.Disk.{File, bytes_in, is_settled}
use Rattle.dso_keep.specs.Records.{AllFit, KeptGraph, Reopens, graph_after, opening, packet_of}
use Rattle.dso_law.specs.Entries.{by_taken_up, entries_of}
use Rattle.dso_law.specs.ServerReadings.{counted, last_number}
use Rattle.dso_law.specs.Settings.{Settings}
use Rattle.dso_law.specs.Store.{stored}
use Rattle.dso_legal.specs.Lawful.{AllFollow}
use Rattle.dso_legal.specs.Slots.{is_any}
use Rattle.dso_wire.specs.CanGo.{RecordCanGo}

-- WHICH RECORDS ARE APPLIED
-- the records with the one that a client's message is, if it is one, at their end
abbrev pub with_record : ℕ → Up → List (ℕ × Txn) → List (ℕ × Txn)
with_record c (up.Commit txn) records = records ++ (c, txn) ∷ []
with_record c m records = records

-- the records that these entries of a server take
abbrev pub records_in : List Entry → List (ℕ × Txn)
records_in [] = []
records_in (e ∷ es) = by_taken_up with_record e.input (records_in es)

-- Applied: the records that the server of a journal has applied, those that it took of clients which weren't lost.
abbrev pub applied : List Entry → List (ℕ × Txn)
applied es = records_in (counted (entries_of Server es))

-- the graph that a server has after its entries, and the number of each client's last record
abbrev pub graph_of : Shape → List Entry → KeptGraph
graph_of shape es = record { bodies = λ o. stored shape o es; last = λ c. last_number c es }

-- The records fit, each the graph of those before it, and leave the graph that the server has after its entries.
pub record Leave (records : List (ℕ × Txn)) (shape : Shape) (es : List Entry) : Type 0 where
  pub fit : AllFit shape (opening shape) records
  pub graph : graph_after (opening shape) records ≡ graph_of shape es

-- So it is of the records that the server has applied, where each entry follows those before it.
abbrev pub AppliedRecordsFit : Type 0
AppliedRecordsFit = (p : Settings) (next : ThreadId → List Event → Option Request) (es : List Entry)
    → AllFollow p next es → Leave (applied es) p.shape (counted (entries_of Server es))

-- the client's record of this number is among these
abbrev pub IsAmong : ℕ → ℕ → List (ℕ × Txn) → Type 0
IsAmong c number [] = ⊥
IsAmong c number (r ∷ records) = ((r.0 ≡ c) × (r.1.seq ≡ number)) ⊎ IsAmong c number records

-- by a client's entries it took the acknowledgement of its record of this number
abbrev pub TookAcknowledgement : ℕ → List Entry → Type 0
TookAcknowledgement number [] = ⊥
TookAcknowledgement number (e ∷ es) = (e.input ≡ TookDown (Ack number)) ⊎ TookAcknowledgement number es

-- A record whose acknowledgement its client took is among those applied, where each entry follows those before it.
abbrev pub AcknowledgedAreApplied : Type 0
AcknowledgedAreApplied = (p : Settings) (next : ThreadId → List Event → Option Request) (es : List Entry)
    → AllFollow p next es → (c number : ℕ) → TookAcknowledgement number (entries_of (Client c) es)
    → IsAmong c number (applied es)

-- WHICH RECORD AN ENTRY APPLIES
-- the record that a client's message is, if it is one
abbrev pub record_told : ℕ → Up → Option (ℕ × Txn)
record_told c (up.Commit txn) = Some (c, txn)
record_told c m = None

-- the record that an entry applies, if it applies one: that which it takes and answers
abbrev pub record_applied : Entry → Option (ℕ × Txn)
record_applied e = cond (is_any e.sent) (by_taken_up (λ c m none. record_told c m) e.input None) None

-- the records with one more at their end, if there is one
abbrev pub with_one : Option (ℕ × Txn) → List (ℕ × Txn) → List (ℕ × Txn)
with_one None records = records
with_one (Some r) records = records ++ r ∷ []

-- a store can keep the record: it has bytes, which aren't too many for their length to stand before them
abbrev pub CanBeKept : ℕ × Txn → Type 0
CanBeKept r = RecordCanGo r.1 × (length (packet_of r) < 2 ^ 32)

-- WHAT A CRASH LEAVES
-- reopening the file gives the records of before, or those of after
abbrev pub ReopensEither : Shape → List (ℕ × Txn) → List (ℕ × Txn) → List ℕ → Type 0
ReopensEither shape before after left = Reopens shape left before ⊎ Reopens shape left after

-- the records after a step are those before it, or one comes behind them
abbrev pub GoesOnByOne : List (ℕ × Txn) → List (ℕ × Txn) → Type 0
GoesOnByOne before after = (after ≡ before) ⊎ ((r : ℕ × Txn) × (after ≡ before ++ r ∷ []))

-- reopening the file gives some of the first of the records
abbrev pub ReopensFirst : Shape → List (ℕ × Txn) → List ℕ → Type 0
ReopensFirst shape records left = (count : ℕ) × Reopens shape left (take count records)

-- the file, where it is told, has no write pending, and reopening it gives the records
abbrev pub IsStoreOf : Shape → List (ℕ × Txn) → Option File → Type 0
IsStoreOf shape records file = IfSome file (λ f. (is_settled f.changes ≡ true) × Reopens shape (bytes_in f) records)

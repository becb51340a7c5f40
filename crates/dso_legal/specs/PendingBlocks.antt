-- What a client did and the server did not take in yet: its ended blocks whose records are in flight.
use Rattle.std.specs.List.{list_any}
use Rattle.std.specs.Prelude.{ℕ, suc, ◌≡◌, cond, Some, None, List, [], ◌∷◌, ◌++◌, length, drop, take}
use Rattle.dso_base.specs.Block.{start, worked, txn_of}
use Rattle.dso_base.specs.declared.journal.Entry.{Entry}
use Rattle.dso_base.specs.declared.journal.Node.TheVariants.{Server, Client}
use Rattle.dso_base.specs.declared.lock.ThreadId.{ThreadId}
use Rattle.dso_base.specs.declared.message.Up.{Up}
use Rattle.dso_base.specs.declared.message.Up.TheVariants as up
use Rattle.dso_base.specs.declared.record.Body.{Body}
use Rattle.dso_base.specs.declared.record.Ending.{Ending}
use Rattle.dso_base.specs.declared.record.Txn.{Txn}
use Rattle.dso_base.specs.declared.request.Event.{Event}
use Rattle.dso_base.specs.declared.shape.Shape.{Shape}
use Rattle.dso_plain.specs.History.{is_act_of}
use Rattle.dso_plain.specs.Touches.{AreActsOf}
use Rattle.dso_law.specs.Entries.{entries_of, by_sent_up}
use Rattle.dso_law.specs.Threads.{Locks, locks_after, ending_of}
use Rattle.dso_law.specs.ServerReadings.{counted, last_number}
use Rattle.dso_legal.specs.Committed.{ended_blocks}

-- the lists behind one another
abbrev pub joined : {X : Type 0} → List (List X) → List X
joined [] = []
joined (xs ∷ rest) = xs ++ joined rest

-- how many records of the client the server took
abbrev pub handed_in : ℕ → List Entry → ℕ
handed_in c es = last_number c (counted (entries_of Server es))

-- Taken in: the ended blocks of the client whose records the server took.
abbrev pub taken_in : ℕ → List Entry → List (List Event)
taken_in c es = take (handed_in c es) (ended_blocks (entries_of (Client c) es))

-- Pending: the ended blocks of the client whose records the server did not take yet, in the order of their endings.
abbrev pub pending : ℕ → List Entry → List (List Event)
pending c es = drop (handed_in c es) (ended_blocks (entries_of (Client c) es))

-- a record in front of others, if the message is one
abbrev pub record_in : Up → List Txn → List Txn
record_in (up.Commit txn) txns = txn ∷ txns
record_in m txns = txns

-- the records among messages, in their order
abbrev pub records_in : List Up → List Txn
records_in [] = []
records_in (m ∷ ms) = record_in m (records_in ms)

-- a record that is sent stands at the end
abbrev pub with_record_sent : Up → List Txn → List Txn
with_record_sent (up.Commit txn) txns = txns ++ txn ∷ []
with_record_sent m txns = txns

-- all records that a client sent, the first of them first
abbrev pub records_sent : List Entry → List Txn
records_sent [] = []
records_sent (e ∷ es) = by_sent_up with_record_sent e.sent (records_sent es)

-- a thread's locks before its first event
abbrev pub no_locks : Locks
no_locks = record { holds = []; waiting = None }

-- the thread's locks after these events, by those before them
abbrev pub locks_through : ThreadId → List Event → Locks → Locks
locks_through t [] locks = locks
locks_through t (event ∷ events) locks = locks_through t events (locks_after t event locks)

-- the private objects that a block of the thread leaves; another thread's block leaves them as they are
abbrev pub privates_by : Shape → ThreadId → List Event → List Body → List Body
privates_by shape t block privates = cond (list_any (is_act_of t) block)
    (worked shape block (start privates)).privates privates

-- the thread's private objects after these blocks, by those before them
abbrev pub privates_through : Shape → ThreadId → List (List Event) → List Body → List Body
privates_through shape t [] privates = privates
privates_through shape t (block ∷ blocks) privates = privates_through shape t blocks
    (privates_by shape t block privates)

-- none of these events of the thread, which has these locks, is an ending
abbrev pub StaysOpen : ThreadId → List Event → Locks → Type 0
StaysOpen t [] locks = Unit {0}
StaysOpen t (event ∷ events) locks = (ending_of event locks ≡ None) × StaysOpen t events (locks_after t event locks)

-- the last event of the block is this ending, and no other is one
pub record EndsWith (t : ThreadId) (ending : Ending) (block : List Event) (locks : Locks) : Type 0 where
  pub earlier : List Event
  pub last : Event
  pub whole : block ≡ earlier ++ last ∷ []
  pub stays : StaysOpen t earlier locks
  pub ends : ending_of last (locks_through t earlier locks) ≡ Some ending

-- the record is that of the block, which stands behind these blocks of its client's
pub record IsRecordOf (shape : Shape) (before : List (List Event)) (txn : Txn) (block : List Event) : Type 0 where
  pub acts : AreActsOf txn.thread block
  pub ends : EndsWith txn.thread txn.ending block (locks_through txn.thread (joined before) no_locks)
  pub whole : txn ≡ txn_of shape (suc (length before)) txn.thread
      (privates_through shape txn.thread before []) block txn.ending

-- the records are those of the blocks, one for one, which stand behind the first ones
abbrev pub AreRecordsOf : Shape → List (List Event) → List Txn → List (List Event) → Type 0
AreRecordsOf shape before [] [] = Unit {0}
AreRecordsOf shape before (txn ∷ txns) (block ∷ blocks) = IsRecordOf shape before txn block
    × AreRecordsOf shape (before ++ block ∷ []) txns blocks
AreRecordsOf shape before txns blocks = ⊥

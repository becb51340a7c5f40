-- The blocks of a client: its threads' events in their order, its records, and where they stand in the history.
use Rattle.std.specs.Prelude.{ℕ, ◌≡◌, ◌≤◌, Bool, false, cond, eqb, Option, List, [], ◌∷◌, ◌++◌, length, drop}
use Rattle.dso_base.specs.declared.journal.Entry.{Entry}
use Rattle.dso_base.specs.declared.journal.Node.TheVariants.{Server, Client}
use Rattle.dso_base.specs.declared.lock.ThreadId.{ThreadId}
use Rattle.dso_base.specs.declared.request.Event.{Event}
use Rattle.dso_base.specs.declared.request.Event.TheVariants.{Act, Lost}
use Rattle.dso_base.specs.declared.request.Request.{Request}
use Rattle.dso_base.specs.declared.shape.Shape.{Shape}
use Rattle.dso_plain.specs.History.{events_of}
use Rattle.dso_plain.specs.Touches.{AreActsOf}
use Rattle.dso_law.specs.Settings.{Settings}
use Rattle.dso_law.specs.Entries.{entries_of, events_in}
use Rattle.dso_law.specs.Channels.{up_in_flight}
use Rattle.dso_law.specs.Threads.{locks_of, open_block, privates_before}
use Rattle.dso_law.specs.ServerReadings.{is_lost}
use Rattle.dso_legal.specs.Agreement.{messages}
use Rattle.dso_legal.specs.Lawful.{IsLawful}
use Rattle.dso_legal.specs.Committed.{ended_blocks, committed}
use Rattle.dso_legal.specs.Resolved.{AreResolved}
use Rattle.dso_legal.specs.WithoutWaits.{WithoutWaits}
use Rattle.dso_legal.specs.PendingBlocks.{joined, handed_in, taken_in, records_in, records_sent, no_locks}
use Rattle.dso_legal.specs.PendingBlocks.{locks_through, privates_through, StaysOpen, AreRecordsOf}

-- whether the event is an act of a thread of the client
abbrev pub is_act_at : ℕ → Event → Bool
is_act_at c (Act thread request reply woken) = eqb thread.client c
is_act_at c (Lost client) = false

-- the acts of the client's threads, in their order
abbrev pub acts_at : ℕ → List Event → List Event
acts_at c [] = []
acts_at c (event ∷ events) = cond (is_act_at c event) (event ∷ acts_at c events) (acts_at c events)

-- By a client's entries: the thread's events are those of the ended blocks and then its open block, in which none is an
-- ending; its locks are those that its events make; its private objects are those that its blocks leave.
pub record KeepsThread (shape : Shape) (t : ThreadId) (own : List Entry) : Type 0 where
  pub events : events_of t (joined (ended_blocks own)) ++ open_block t own ≡ events_in t own
  pub acts : AreActsOf t (open_block t own)
  pub locks : locks_of t own ≡ locks_through t (events_in t own) no_locks
  pub stays : StaysOpen t (open_block t own) (locks_through t (joined (ended_blocks own)) no_locks)
  pub privates : privates_before shape t own ≡ privates_through shape t (ended_blocks own) []

-- By a client's entries the blocks of each thread are kept so, and the records that the client sent are those of its
-- ended blocks.
pub record KeepsBlocks (shape : Shape) (own : List Entry) : Type 0 where
  pub thread : (t : ThreadId) → KeepsThread shape t own
  pub records : AreRecordsOf shape [] (records_sent own) (ended_blocks own)

-- Blocks are kept, in every lawful journal, at each client.
abbrev pub BlocksAreKept : Type 0
BlocksAreKept = (p : Settings) (next : ThreadId → List Event → Option Request) (es : List Entry) → IsLawful p next es
    → (c : ℕ) → KeepsBlocks p.shape (entries_of (Client c) es)

-- the server took no more records than the client has ended blocks, and the records in flight are those that it sent
-- and the server did not take
pub record IsHandedIn (c : ℕ) (es : List Entry) : Type 0 where
  pub few : handed_in c es ≤ length (ended_blocks (entries_of (Client c) es))
  pub in_flight : records_in (messages (up_in_flight c es))
      ≡ drop (handed_in c es) (records_sent (entries_of (Client c) es))

-- Blocks are handed in, in every lawful journal, by each client that isn't lost.
abbrev pub BlocksAreHandedIn : Type 0
BlocksAreHandedIn = (p : Settings) (next : ThreadId → List Event → Option Request) (es : List Entry)
    → IsLawful p next es
    → (c : ℕ) → is_lost c (entries_of Server es) ≡ false → IsHandedIn c es

-- What the history has of a client: the blocks of its first endings, in their order and nothing else, each notification
-- that left the choice to the server with whom it chose. A block ends with its thread's ending, so each thread is cut
-- at its last one among these. They are as many as the server took records of the client; of a lost one it takes no
-- more.
pub record HasFirstEndings (c : ℕ) (es : List Entry) : Type 0 where
  pub few : handed_in c es ≤ length (ended_blocks (entries_of (Client c) es))
  pub blocks : AreResolved (joined (taken_in c es)) (acts_at c (committed es))

-- Histories hold blocks: of each client, a lost one too, those of its first endings.
abbrev pub HistoriesHoldBlocks : Type 0
HistoriesHoldBlocks = (p : Settings) (next : ThreadId → List Event → Option Request) (es : List Entry)
    → IsLawful p next es
    → (c : ℕ) → HasFirstEndings c es

-- So of each thread the events of these.
abbrev pub HistoriesHoldEvents : Type 0
HistoriesHoldEvents = (p : Settings) (next : ThreadId → List Event → Option Request) (es : List Entry)
    → IsLawful p next es
    → (t : ThreadId) → AreResolved (events_of t (joined (taken_in t.client es))) (events_of t (committed es))

-- In a journal without waits, just as the threads made them.
abbrev pub HistoriesHoldBlocksAsMade : Type 0
HistoriesHoldBlocksAsMade = (p : Settings) (next : ThreadId → List Event → Option Request) (es : List Entry)
    → IsLawful p next es → WithoutWaits es
    → (t : ThreadId) → events_of t (committed es) ≡ events_of t (joined (taken_in t.client es))

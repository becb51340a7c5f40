-- Threads by what they ask next: an entry is to look only at those whose answer it can change. Each client has 64
-- buckets, each topic goes into one of them, and a bucket has a bit for each thread whose next request is of such a
-- topic. Entries stand with the newest first.
use Rattle.std.specs.Int.{bit_at}
use Rattle.std.specs.List.{list_any}
use Rattle.std.specs.Option.{option_map_or}
use Rattle.std.specs.Prelude.{ℕ, ◌+◌, ◌*◌, ◌-◌, ◌%◌, ◌^◌, ◌<◌, ◌≡◌, true, eqb, Option, Some, None, List, slice_get}
use Rattle.dso_base.specs.declared.journal.Entry.{Entry}
use Rattle.dso_base.specs.declared.lock.LockName.{LockName}
use Rattle.dso_base.specs.declared.lock.LockName.TheVariants as lock
use Rattle.dso_base.specs.declared.lock.ThreadId.{ThreadId}
use Rattle.dso_base.specs.declared.request.Event.{Event}
use Rattle.dso_base.specs.declared.request.Event.TheVariants.{Act, Lost}
use Rattle.dso_base.specs.declared.request.Request.{Request}
use Rattle.dso_base.specs.Following.{is_thread}
use Rattle.dso_class.specs.declared.program.Program.{Program}
use Rattle.dso_law.specs.Settings.{clients_of, threads_of}
use Rattle.dso_legal.specs.Lawful.{next_after}
use Rattle.dso_machine.specs.Next.{next_request}
use Rattle.dso_open_law.specs.TouchedThreads.{Topic, OfIds, OfObject, OfLock, OfRecords, OfNothing, topic}
use Rattle.dso_world.specs.WorldSteps.{settings_of}

-- the number of a lock
abbrev pub lock_number : LockName → ℕ
lock_number (lock.Mon o) = o
lock_number (lock.Name n) = n

-- The bucket of a topic: one for ids, one for records, 31 for objects and 31 for locks, by their numbers.
abbrev pub bucket_of : Topic → Option ℕ
bucket_of OfIds = Some 0
bucket_of (OfRecords t) = Some 1
bucket_of (OfObject o) = Some (o % 31 + 2)
bucket_of (OfLock l) = Some (lock_number l % 31 + 33)
bucket_of OfNothing = None

-- where the word of a client's bucket stands
abbrev pub row_of : ℕ → ℕ → ℕ
row_of c b = 64 * c + b

abbrev pub same_word : ℕ → ℕ
same_word word = word

-- the word there; all threads where there is none
abbrev pub word_at : List ℕ → ℕ → ℕ
word_at words row = option_map_or same_word (slice_get words row) (2 ^ 64 - 1)

-- the thread is among those of this bucket of its client
abbrev pub IsListed : List ℕ → ThreadId → ℕ → Type 0
IsListed words t b = bit_at (word_at words (row_of t.client b)) t.index ≡ 1

-- so of the bucket of what it asks next, if that is of a topic
abbrev pub IsUnder : List ℕ → ThreadId → Option Request → Type 0
IsUnder words t request = (b : ℕ) → bucket_of (topic t request) ≡ Some b → IsListed words t b

-- the two are one thread
abbrev pub IsOne : ThreadId → ThreadId → Type 0
IsOne t u = (u.client ≡ t.client) × (u.index ≡ t.index)

-- The thread asks this next; each other is listed where it was. No client has 64 threads.
pub record TurnsTo (t : ThreadId) (request : Option Request) (old new : List ℕ) : Type 0 where
  pub its : t.index < 64 → IsUnder new t request
  pub others : (u : ThreadId) (b : ℕ) → b < 64 → u.index < 64 → (IsOne t u → ⊥) → IsListed old u b → IsListed new u b

-- so of the thread that acts, where one does; else nothing changes
abbrev pub Turns : Option Event → Option Request → List ℕ → List ℕ → Type 0
Turns None next old new = new ≡ old
Turns (Some (Act t request reply woken)) next old new = TurnsTo t next old new
Turns (Some (Lost client)) next old new = new ≡ old

module _ (program : Program) where
  -- the thread is one of a client of the cluster
  pub record IsOfCluster (t : ThreadId) : Type 0 where
    pub client : list_any (eqb t.client) (clients_of (settings_of program)) ≡ true
    pub among : list_any (is_thread t) (threads_of (settings_of program) t.client) ≡ true

  -- the next request of a thread after these entries
  abbrev pub next_of : List Entry → ThreadId → Option Request
  next_of es t = next_after (next_request program.code) es t

  -- Each thread of the cluster is listed by what it asks next after the entries.
  abbrev pub AreListed : List ℕ → List Entry → Type 0
  AreListed words es = (t : ThreadId) → IsOfCluster t → IsUnder words t (next_of es t)

-- How a client sees the one heap, for one of its threads: what its readings say holds in the state in which the thread
-- acts.
use Rattle.std.specs.List.{list_any}
use Rattle.std.specs.Prelude.{ℕ, ◌≡◌, ◌≢◌, ◌≤◌, ◌⊎◌, true, false, Option, Some, None, List}
use Rattle.dso_base.specs.declared.journal.Entry.{Entry}
use Rattle.dso_base.specs.declared.lock.Level.{Level}
use Rattle.dso_base.specs.declared.lock.LockName.{LockName}
use Rattle.dso_base.specs.declared.lock.ThreadId.{ThreadId}
use Rattle.dso_base.specs.declared.request.Reply.{Reply}
use Rattle.dso_base.specs.declared.request.Request.{Request}
use Rattle.dso_base.specs.declared.shape.Shape.{Shape}
use Rattle.dso_base.specs.declared.value.ClassId.{ClassId}
use Rattle.dso_base.specs.declared.value.Value.{Value}
use Rattle.dso_base.specs.Following.{is_thread}
use Rattle.dso_plain.specs.Past.{KeepsPast}
use Rattle.dso_plain.specs.Possible.{IsCompatible, StandsFrom, IsOf, IsPossibleButMarks}
use Rattle.dso_plain.specs.State.{PlainState, IsShared, HoldsGuard, hold_on_guard, level_of}
use Rattle.dso_law.specs.Entries.{events_in}
use Rattle.dso_law.specs.Settings.{Settings}
use Rattle.dso_law.specs.Copies.{is_resident, class_held}
use Rattle.dso_law.specs.FitsDown.{IsWaitingOn}
use Rattle.dso_law.specs.Leases.{leased}
use Rattle.dso_law.specs.RequestNeeds.{is_enough, hold_level, unmet}
use Rattle.dso_law.specs.Records.{next_id}
use Rattle.dso_law.specs.Replies.{value_seen, reply_of}
use Rattle.dso_law.specs.Threads.{own, locks_of, hold_of, work_of}
use Rattle.dso_legal.specs.Names.{NamesAreKnown}
use Rattle.dso_legal.specs.SoundProgram.{KeepsTo}
use Rattle.dso_legal.specs.Works.{HaveLocks, TellsWork}

-- A value that the thread reads of a shared object: under the guard the heap's; without it one of the past, not older
-- than what the thread has seen.
pub record IsReadable (shape : Shape) (t : ThreadId) (o f : ℕ) (v : Value) (s : PlainState) : Type 0 where
  pub shared : IsShared o s
  pub guarded : HoldsGuard shape t o f s → s.heap (o, f) ≡ Some v
  pub unguarded : hold_on_guard shape t o f s ≡ None → StandsFrom (s.seen (t, o, f)) v (s.past (o, f))

-- An object that is resident and not the thread's own is shared, and of the class and size held for it; and each value
-- that the thread would read of it can be read.
pub record SeesCopy (p : Settings) (t : ThreadId) (client : List Entry) (o : ℕ) (s : PlainState) : Type 0 where
  pub shared : IsShared o s
  pub class : (class : ClassId × ℕ) → class_held o client ≡ Some class → IsOf class.0 class.1 (s.objects o)
  pub values : (f : ℕ) (v : Value) → value_seen p t o f client ≡ Some v → IsReadable p.shape t o f v s

-- What the client's other threads hold it knows, and what other clients' threads hold doesn't conflict with its leases.
pub record SeesHolds (t : ThreadId) (client : List Entry) (s : PlainState) : Type 0 where
  pub own : HaveLocks t (locks_of t client) s
  pub mates : (u : ThreadId) (l : LockName) → u ≢ t → u.client ≡ t.client
      → (s.monitors (l, u) ≡ None) ⊎ (level_of (s.monitors (l, u)) ≡ hold_level (hold_of u l client))
  pub others : (u : ThreadId) (l : LockName) (x : Level) → u.client ≢ t.client → is_enough x (leased l client) ≡ true
      → IsCompatible x (level_of (s.monitors (l, u)))

-- All that decides what the thread can do: the holds; what it has in hand, since its block's start; the copies; the
-- next id is new; the objects that it can name are its own or shared; it has not ended, and its client is not lost.
pub record Sees (p : Settings) (t : ThreadId) (client : List Entry) (start_state s : PlainState) : Type 0 where
  pub past : KeepsPast s
  pub holds : SeesHolds t client s
  pub work : TellsWork t (work_of p.shape t client) start_state s
  pub copies : (o : ℕ) → own p.shape t o client ≡ None → is_resident o client ≡ true → SeesCopy p t client o s
  pub fresh : (o : ℕ) → next_id client ≡ Some o → (1 ≤ o) × (s.objects o ≡ None)
  pub names : NamesAreKnown t (events_in t client) s
  pub connected : s.lost t.client ≡ false
  pub going : s.ended t ≡ None

-- No thread that isn't the program's holds a lock.
abbrev pub OnlyListedHold : Settings → List Entry → Type 0
OnlyListedHold p client = (u : ThreadId) (l : LockName) → list_any (is_thread u) p.threads ≡ false
    → hold_of u l client ≡ None

-- Only threads of the program hold locks, and the thread doesn't hold the lock that it waits on.
pub record IsOrderly (p : Settings) (t : ThreadId) (client : List Entry) : Type 0 where
  pub listed : OnlyListedHold p client
  pub apart : (l : LockName) → IsWaitingOn l (locks_of t client).waiting → hold_of t l client ≡ None

-- Acts are possible: what a client answers, where all needs are met and the program keeps to what it must, the one heap
-- allows, whatever is marked.
abbrev pub ActsArePossible : Type 0
ActsArePossible = (p : Settings) (next : ThreadId → Option Request) (t : ThreadId) (request : Request) (reply : Reply)
    (client : List Entry) (start_state s : PlainState)
    → Sees p t client start_state s → IsOrderly p t client → KeepsTo p.shape t (events_in t client) request
    → unmet p t.client next t request client ≡ None → reply_of p t request client ≡ Some reply
    → IsPossibleButMarks p.shape t request reply s

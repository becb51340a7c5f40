-- What is kept of a thread stands for the client's entries.
use Rattle.std.specs.Prelude.{◌≡◌, ℕ, cond, Option, Some, None, List, [], ◌∷◌}
use Rattle.dso_base.specs.declared.journal.Entry.{Entry}
use Rattle.dso_base.specs.declared.lock.ThreadId.{ThreadId}
use Rattle.dso_base.specs.declared.message.Up.{Up}
use Rattle.dso_base.specs.declared.message.Up.TheVariants as up
use Rattle.dso_base.specs.Following.{is_thread}
use Rattle.dso_change.specs.Hands.{hand_of}
use Rattle.dso_law.specs.Entries.{by_sent_up}
use Rattle.dso_law.specs.Threads.{locks_of, last_seen, work_of}
use Rattle.dso_law.specs.ClientWaiters.{is_marked}
use Rattle.dso_txn.specs.InHand.{hand_in}
use Rattle.dso_client.specs.declared.thread_context.ThreadContext.{ThreadContext}
use Rattle.dso_client.specs.RunPoints.{RunPoint}

-- a record of the thread is its last one
abbrev pub last_by_sent : ThreadId → Up → Option ℕ → Option ℕ
last_by_sent t (up.Commit txn) before = cond (is_thread t txn.thread) (Some txn.seq) before
last_by_sent t m before = before

-- the number of the thread's last record, None before its first
abbrev pub last_record : ThreadId → List Entry → Option ℕ
last_record t [] = None
last_record t (e ∷ es) = by_sent_up (last_by_sent t) e.sent (last_record t es)

-- The thread's next request; the work that it has in hand; what its latest Look saw; the lock that it waits on; whether
-- it is marked; its last record.
pub record ContextStands (at : RunPoint) (context : ThreadContext) : Type 0 where
  pub next : context.next ≡ at.next context.id
  pub work : hand_in context.privates context.block ≡ hand_of (work_of at.settings.shape context.id at.entries)
  pub seen : context.seen ≡ last_seen context.id at.entries
  pub waiting : context.waiting ≡ (locks_of context.id at.entries).waiting
  pub marked : context.is_marked ≡ is_marked context.id at.entries
  pub last : context.last_record ≡ last_record context.id at.entries

-- What an answered request makes of what is kept of each thread, before anything is sent.
use Rattle.std.specs.List.{AllZip}
use Rattle.std.specs.Option.{option_map_or}
use Rattle.std.specs.Prelude.{◌≡◌, ◌≤◌, ℕ, true, false, cond, eqb, Some, List, map}
use Rattle.dso_law.specs.ClientWaiters.{is_marked}
use Rattle.dso_law.specs.Threads.{locks_of, last_seen}
use Rattle.dso_client.specs.declared.answered.Answered.{Answered}
use Rattle.dso_client.specs.declared.lock_state.LockState.{LockState}
use Rattle.dso_client.specs.declared.thread_context.ThreadContext.{ThreadContext}
use Rattle.dso_client.specs.LockEntries.{count_owed}
use Rattle.dso_client.specs.ActEffects.{CountsAtMost, applied}
use Rattle.dso_client.specs.LockStateStands.{LockStateStands}
use Rattle.dso_client.specs.Openings.{thread_at}
use Rattle.dso_client.specs.RunPoints.{RunPoint}
use Rattle.dso_client.specs.ContextPlaces.{context_in, running}
use Rattle.dso_client.specs.ContextStands.{last_record}

-- all that is kept of a thread but the work that it has in hand
pub record RestStands (at : RunPoint) (context : ThreadContext) : Type 0 where
  pub next : context.next ≡ at.next context.id
  pub seen : context.seen ≡ last_seen context.id at.entries
  pub waiting : context.waiting ≡ (locks_of context.id at.entries).waiting
  pub marked : context.is_marked ≡ is_marked context.id at.entries
  pub last : context.last_record ≡ last_record context.id at.entries

-- What is kept of the thread of this index once the request was answered, by the locks as they were: its work, its
-- machine and its next request are those of before, and all else stands. A wait is to have no greater count again than
-- a hold had.
pub record AppliesTo (lock_state : LockState) (act : Answered) (index : ℕ) (old new : ThreadContext) : Type 0 where
  pub rest : (clock : ℕ) (at : RunPoint) → old.id ≡ thread_at at.client index → LockStateStands at lock_state
      → RestStands at old → RestStands (applied clock act at) new
  pub runs : running new ≡ running old
  pub privates : new.privates ≡ old.privates
  pub block : new.block ≡ old.block
  pub waits : (most : ℕ) → CountsAtMost most lock_state.holds → count_owed old.waiting ≤ most
      → count_owed new.waiting ≤ most

-- so whatever its index is
abbrev pub AppliesToAny : LockState → Answered → ThreadContext → ThreadContext → Type 0
AppliesToAny lock_state act old new = (index : ℕ) → AppliesTo lock_state act index old new

-- so of each thread, whatever the indexes are
abbrev pub ApplyToAll : LockState → Answered → List ThreadContext → List ThreadContext → Type 0
ApplyToAll lock_state act = AllZip (AppliesToAny lock_state act)

-- so of the thread of one index, which is compared with that of a context; another is as it was
pub record AppliesWhere (lock_state : LockState) (act : Answered) (index place : ℕ) (old new : ThreadContext)
    : Type 0 where
  pub here : eqb index place ≡ true → AppliesToAny lock_state act old new
  pub elsewhere : eqb index place ≡ false → new ≡ old

-- so of all: the contexts with that of the thread of the index, if it is there, changed by the act
pub record AppliesToOne (lock_state : LockState) (act : Answered) (index : ℕ) (old new : List ThreadContext)
    : Type 0 where
  pub each : (place : ℕ) (context : ThreadContext) → context_in new place ≡ Some context → (before : ThreadContext)
      × (context_in old place ≡ Some before) × AppliesWhere lock_state act index place before context
  pub runs : map running new ≡ map running old

-- the index of the thread that the act woke, where that is another than its own; else 0, which no thread has
abbrev pub woken_index : Answered → ℕ
woken_index act = option_map_or (λ t. cond (eqb t.index act.thread.index) 0 t.index) act.woken 0

-- what is kept of each thread once the request was answered
pub record ApplyTo (lock_state : LockState) (act : Answered) (old new : List ThreadContext) : Type 0 where
  pub each : (place : ℕ) (context : ThreadContext) → context_in new place ≡ Some context → (before : ThreadContext)
      × (context_in old place ≡ Some before) × AppliesTo lock_state act place before context
  pub runs : map running new ≡ map running old

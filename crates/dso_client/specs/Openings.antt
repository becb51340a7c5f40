-- A client before its first entry.
use Rattle.std.specs.Prelude.{◌≡◌, ◌≢◌, ◌≤◌, ℕ, false, Option, Some, None, List, [], map}
use Rattle.dso_base.specs.declared.lock.ThreadId.{ThreadId}
use Rattle.dso_base.specs.declared.request.Request.{Request}
use Rattle.dso_base.specs.Block.{start}
use Rattle.dso_change.specs.Hands.{hand_of}
use Rattle.dso_law.specs.Settings.{up_to}
use Rattle.dso_machine.specs.declared.code.Code.{Code}
use Rattle.dso_machine.specs.declared.thread.Thread.{Thread}
use Rattle.dso_machine.specs.Next.{body_of, next_request}
use Rattle.dso_machine.specs.Standing.{ThreadStands}
use Rattle.dso_txn.specs.InHand.{hand_in}
use Rattle.dso_hold.specs.Holds.{hold_in}
use Rattle.dso_lease.specs.Leases.{standing_in}
use Rattle.dso_txn.specs.Numbers.{numbers_in}
use Rattle.dso_client.specs.declared.sequences.Sequences.{Sequences}
use Rattle.dso_client.specs.declared.lock_state.LockState.{LockState}
use Rattle.dso_client.specs.declared.thread_context.ThreadContext.{ThreadContext}
use Rattle.dso_client.specs.CodeRuns.{Runs, ContextRuns}

-- the client's thread of this index
abbrev pub thread_at : ℕ → ℕ → ThreadId
thread_at c index = record { client = c; index = index }

-- the client's first n threads
abbrev pub first_threads : ℕ → ℕ → List ThreadId
first_threads c n = map (thread_at c) (up_to n)

-- the code has the client's first n threads
abbrev pub HasThreads : Code → ℕ → ℕ → Type 0
HasThreads code c n = (index : ℕ) → 1 ≤ index → index ≤ n → body_of (thread_at c index) code.bodies ≢ None

-- a thread that runs the code and did nothing yet, with its first request, None where it has ended
pub record IsAtStart (code : Code) (t : ThreadId) (thread : Thread) (next : Option Request) : Type 0 where
  pub stands : ThreadStands code t thread []
  pub asks : next ≡ next_request code t []
  pub runs : (request : Request) → next ≡ Some request → Runs code t thread request

-- A thread that did nothing yet, with nothing in hand.
pub record IsOpening (code : Code) (context : ThreadContext) : Type 0 where
  pub runs : ContextRuns code context
  pub stands : ThreadStands code context.id context.thread []
  pub next : context.next ≡ next_request code context.id []
  pub work : hand_in context.privates context.block ≡ hand_of (start [])
  pub seen : context.seen ≡ None
  pub waiting : context.waiting ≡ None
  pub unmarked : context.is_marked ≡ false
  pub last : context.last_record ≡ None

-- no lock is held, leased, asked for or waited on
pub record IsEmptyLockState (lock_state : LockState) : Type 0 where
  pub holds : hold_in lock_state.holds ≡ (λ _. None)
  pub leases : standing_in lock_state.leases ≡ (λ _. None)
  pub lists : lock_state.lists.entries ≡ []

-- no id is left, none is asked for, and no record was sent
pub record AreUnusedSequences (sequences : Sequences) : Type 0 where
  pub pool : sequences.pool ≡ record { next = 1; end = 1 }
  pub asking : sequences.is_asking ≡ false
  pub records : sequences.records ≡ 0
  pub unacked : numbers_in sequences.unacked ≡ (λ _. false)

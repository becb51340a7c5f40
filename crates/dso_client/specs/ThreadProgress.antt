-- A thread hears the reply to its request and goes on to its next one.
use Rattle.std.specs.Prelude.{◌≡◌, ◌++◌, ℕ, zero, suc, Option, Some, None, List, [], ◌∷◌, slice_set}
use Rattle.std.specs.Option.{option_and_then}
use Rattle.dso_base.specs.declared.lock.LockName.{LockName}
use Rattle.dso_base.specs.declared.lock.ThreadId.{ThreadId}
use Rattle.dso_base.specs.declared.request.Event.{Event}
use Rattle.dso_base.specs.declared.request.Event.TheVariants.{Act}
use Rattle.dso_base.specs.declared.request.Reply.{Reply}
use Rattle.dso_base.specs.declared.request.Request.{Request}
use Rattle.dso_machine.specs.declared.code.Code.{Code}
use Rattle.dso_machine.specs.declared.thread.Thread.{Thread}
use Rattle.dso_machine.specs.Next.{next_request}
use Rattle.dso_machine.specs.Standing.{ThreadStands}
use Rattle.dso_client.specs.declared.thread_context.ThreadContext.{ThreadContext}
use Rattle.dso_client.specs.CodeRuns.{Runs}
use Rattle.dso_client.specs.LeaseReturns.{wanted_lock}
use Rattle.dso_client.specs.SentRecords.{changed_context}
use Rattle.dso_client.specs.ContextPlaces.{context_in}

-- The thread heard the reply, and this is its next request, None where it has ended: whatever events it stood for, it
-- stands for them with the act that was answered, and the request is what the code asks next behind them.
pub record GoesOn (code : Code) (t : ThreadId) (reply : Reply) (old new : Thread) (next : Option Request)
    : Type 0 where
  pub stands : (events : List Event) (request : Request) (woken : Option ThreadId) → ThreadStands code t old events
      → ThreadStands code t new (events ++ Act t request reply woken ∷ [])
  pub asks : (events : List Event) (request : Request) (woken : Option ThreadId) → ThreadStands code t old events
      → next ≡ next_request code t (events ++ Act t request reply woken ∷ [])
  pub runs : (request : Request) → next ≡ Some request → Runs code t new request

-- the next request that is kept of the thread of an index, None where it has none and where there is no such thread
abbrev pub next_at : List ThreadContext → ℕ → Option Request
next_at contexts index = option_and_then (λ context. context.next) (context_in contexts index)

-- the lock that a thread next wants at Write that was woken, if one was
abbrev pub wanted_by : List ThreadContext → Option ThreadId → Option LockName
wanted_by contexts None = None
wanted_by contexts (Some t) = wanted_lock (next_at contexts t.index)

-- the contexts with this one in place of that of the thread of an index
abbrev pub with_context : ℕ → ThreadContext → List ThreadContext → List ThreadContext
with_context zero context contexts = contexts
with_context (suc at) context contexts = slice_set contexts at context

-- the thread of this index goes on so, and nothing else is changed
pub record HasGoneOn (code : Code) (index : ℕ) (reply : Reply) (old new : List ThreadContext) (next : Option Request)
    : Type 0 where
  pub context : ThreadContext
  pub thread : Thread
  pub there : context_in old index ≡ Some context
  pub goes : GoesOn code context.id reply context.thread thread next
  pub set : new ≡ with_context index (record context { thread = thread }) old

-- the contexts, where the thread of this index, if it is there, has this next request
abbrev pub with_next : ℕ → Option Request → List ThreadContext → List ThreadContext
with_next index next contexts = changed_context index (λ context. record context { next = next }) contexts

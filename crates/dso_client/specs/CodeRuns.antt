-- That the threads of a client run a code.
use Rattle.std.specs.List.{AllByRecursion}
use Rattle.std.specs.Prelude.{◌≡◌, Option, Some, List}
use Rattle.dso_base.specs.declared.lock.ThreadId.{ThreadId}
use Rattle.dso_base.specs.declared.request.Event.{Event}
use Rattle.dso_base.specs.declared.request.Request.{Request}
use Rattle.dso_machine.specs.declared.code.Code.{Code}
use Rattle.dso_machine.specs.declared.thread.Thread.{Thread}
use Rattle.dso_machine.specs.Next.{next_request}
use Rattle.dso_machine.specs.Standing.{ThreadStands, asked}
use Rattle.dso_client.specs.declared.client_state.ClientState.{ClientState}
use Rattle.dso_client.specs.declared.thread_context.ThreadContext.{ThreadContext}

-- the thread runs the code, and has this request out
pub record Runs (code : Code) (t : ThreadId) (thread : Thread) (request : Request) : Type 0 where
  pub events : List Event
  pub stands : ThreadStands code t thread events
  pub out : asked thread ≡ Some request

-- the thread runs the code
pub record IsOfCode (code : Code) (t : ThreadId) (thread : Thread) : Type 0 where
  pub events : List Event
  pub stands : ThreadStands code t thread events

-- This is the thread's next request, None where it has ended: whatever events it stood for, it stands for them, and the
-- request is what the code asks next; and it runs the code with that request out.
pub record IsNextOf (code : Code) (t : ThreadId) (old new : Thread) (next : Option Request) : Type 0 where
  pub stands : (events : List Event) → ThreadStands code t old events → ThreadStands code t new events
  pub asks : (events : List Event) → ThreadStands code t old events → next ≡ next_request code t events
  pub runs : (request : Request) → next ≡ Some request → Runs code t new request

-- so does the thread of a context that has a next request
pub record ContextRuns (code : Code) (context : ThreadContext) : Type 0 where
  pub runs : (request : Request) → context.next ≡ Some request → Runs code context.id context.thread request

-- The code is that of each thread that has a next request.
abbrev pub RunsCode : Code → ClientState → Type 0
RunsCode code kept = AllByRecursion (ContextRuns code) kept.contexts.items

-- there is a code that they run
pub record RunsSomeCode (kept : ClientState) : Type 0 where
  pub code : Code
  pub runs : RunsCode code kept

-- Where a thread's context is.
use Rattle.std.specs.Prelude.{ℕ, zero, suc, true, Option, Some, None, List, slice_get, slice_set}
use Rattle.dso_base.specs.declared.lock.ThreadId.{ThreadId}
use Rattle.dso_base.specs.declared.request.Request.{Request}
use Rattle.dso_machine.specs.declared.thread.Thread.{Thread}
use Rattle.dso_client.specs.declared.thread_context.ThreadContext.{ThreadContext}

-- the context of the thread of an index: the first thread has index 1
abbrev pub context_in : List ThreadContext → ℕ → Option ThreadContext
context_in contexts zero = None
context_in contexts (suc at) = slice_get contexts at

-- the contexts with this one, if it is there, marked at its place
abbrev pub marked_at : ℕ → Option ThreadContext → List ThreadContext → List ThreadContext
marked_at at None contexts = contexts
marked_at at (Some context) contexts = slice_set contexts at (record context { is_marked = true })

-- the contexts with that of the thread of an index marked
abbrev pub with_mark : ℕ → List ThreadContext → List ThreadContext
with_mark zero contexts = contexts
with_mark (suc at) contexts = marked_at at (slice_get contexts at) contexts

-- a thread with its next request
abbrev pub running : ThreadContext → ThreadId × Thread × Option Request
running context = (context.id, context.thread, context.next)

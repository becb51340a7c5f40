-- What a client tells of the objects that its threads name, and of those that its copies name.
use Rattle.std.specs.List.{AllByRecursion, list_any}
use Rattle.std.specs.Prelude.{◌≡◌, ℕ, Some, List}
use Rattle.dso_base.specs.declared.journal.Entry.{Entry}
use Rattle.dso_base.specs.declared.request.Event.{Event}
use Rattle.dso_base.specs.declared.request.Request.{Request}
use Rattle.dso_base.specs.Block.{body_names}
use Rattle.dso_change.specs.Hands.{IsOnce}
use Rattle.dso_law.specs.Entries.{events_in}
use Rattle.dso_law.specs.HeldBody.{held_body}
use Rattle.dso_law.specs.Settings.{Settings, threads_of}
use Rattle.dso_law.specs.Threads.{work_of}
use Rattle.dso_legal.specs.Collection.{thread_holds}
use Rattle.dso_lookup.specs.Search.{has_edge, is_listed}
use Rattle.dso_machine.specs.declared.code.Code.{Code}
use Rattle.dso_machine.specs.Frames.{frames_after, holds_then}
use Rattle.dso_machine.specs.Next.{next_request}
use Rattle.dso_machine.specs.Standing.{ThreadStands, asked}
use Rattle.dso_txn.specs.NamedInHand.{AddsNamed}
use Rattle.dso_client.specs.declared.client_state.ClientState.{ClientState}
use Rattle.dso_client.specs.declared.thread_context.ThreadContext.{ThreadContext}
use Rattle.dso_client.specs.ClientStands.{ClientStands, point}
use Rattle.dso_client.specs.ContextStands.{ContextStands}

-- a thread that has a next request has it out
abbrev pub HasNextOut : ThreadContext → Type 0
HasNextOut context = (request : Request) → context.next ≡ Some request → asked context.thread ≡ Some request

-- A thread stands for its events in the entries, what is kept of it stands for them; what it has in hand it has once.
pub record IsStanding (code : Code) (p : Settings) (c : ℕ) (es : List Entry) (context : ThreadContext) : Type 0 where
  pub kept : ContextStands (point code p c es) context
  pub thread : ThreadStands code context.id context.thread (events_in context.id es)
  pub once : IsOnce (work_of p.shape context.id es)

-- The list has besides what the thread's frames hold and its next request names, whatever events the thread stands for.
abbrev pub AddsHeld : ThreadContext → List ℕ → List ℕ → Type 0
AddsHeld context old new = (code : Code) (events : List Event) → ThreadStands code context.id context.thread events
    → context.next ≡ next_request code context.id events
    → AddsNamed (holds_then (next_request code) (frames_after code) context.id events) old new

-- The list has besides what the thread names, whatever entries it stands for.
abbrev pub AddsThread : ThreadContext → List ℕ → List ℕ → Type 0
AddsThread context old new = (code : Code) (p : Settings) (c : ℕ) (es : List Entry) → IsStanding code p c es context
    → AddsNamed (thread_holds p (next_request code) (frames_after code) context.id es) old new

-- so for several threads
abbrev pub AddsThreads : List ThreadContext → List ℕ → List ℕ → Type 0
AddsThreads contexts old new = (code : Code) (p : Settings) (c : ℕ) (es : List Entry)
    → AllByRecursion (IsStanding code p c es) contexts
    → AddsNamed (λ o. list_any (λ context. thread_holds p (next_request code) (frames_after code) context.id es o)
    contexts) old new

-- The list has exactly the objects that a thread of the client names, whatever entries the client stands for: its
-- frames hold them, its next request names them, or it has them in hand.
abbrev pub TellsNamed : ClientState → List ℕ → Type 0
TellsNamed kept named = (code : Code) (p : Settings) (c : ℕ) (es : List Entry) → ClientStands code p c kept es
    → (o : ℕ)
    → is_listed o named
    ≡ list_any (λ t. thread_holds p (next_request code) (frames_after code) t es o) (threads_of p c)

-- The list has exactly the edges from an object to each one that the client's copy of it names, whatever entries the
-- client stands for.
abbrev pub TellsEdges : ClientState → List (ℕ × ℕ) → Type 0
TellsEdges kept edges = (code : Code) (p : Settings) (c : ℕ) (es : List Entry) → ClientStands code p c kept es
    → (a b : ℕ) → has_edge a b edges ≡ body_names (held_body a es) b

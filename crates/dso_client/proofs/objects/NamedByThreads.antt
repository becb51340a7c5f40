-- What a client's threads name, thread by thread.
use Rattle.std.proofs.Common.{◌≡◌, ℕ, refl, sym, ◌∙◌, ap, Bool, true, false, ◌||◌, ◌≤◌, arith, subst, is_some, length, get_or, None, List, [], ◌∷◌, map}
use Rattle.std.specs.List.{AllByRecursion, list_any}
use Rattle.dso_base.specs.declared.journal.Entry.{Entry}
use Rattle.dso_base.specs.declared.lock.ThreadId.{ThreadId}
use Rattle.dso_base.specs.declared.request.Event.{Event}
use Rattle.dso_law.specs.Entries.{events_in}
use Rattle.dso_law.specs.Settings.{Settings}
use Rattle.dso_legal.specs.Collection.{thread_holds}
use Rattle.dso_lookup.specs.Search.{is_listed}
use Rattle.dso_machine.specs.declared.code.Code.{Code}
use Rattle.dso_machine.specs.declared.thread.Thread.{Thread}
use Rattle.dso_machine.specs.Frames.{frames_after, holds_then}
use Rattle.dso_machine.specs.Next.{next_request}
use Rattle.dso_machine.specs.Standing.{ThreadStands}
use Rattle.dso_machine.proofs.frames.Named.{named_over}
use Rattle.dso_machine.proofs.standing.Ends.{asks_over, over_is}
use Rattle.dso_txn.specs.NamedInHand.{AddsNamed}
use Rattle.dso_client.specs.declared.client_state.ClientState.{ClientState}
use Rattle.dso_client.specs.declared.thread_context.ThreadContext.{ThreadContext}
use Rattle.dso_client.specs.ClientStands.{ClientStands, point}
use Rattle.dso_client.specs.ContextStands.{ContextStands}
use Rattle.dso_client.specs.CodeRuns.{ContextRuns, RunsSomeCode}
use Rattle.dso_client.specs.NamedObjects.{AddsThread, AddsThreads, HasNextOut, IsStanding, TellsNamed}
use Rattle.dso_client.specs.Spent.{WhileWhole}
use Rattle.dso_client.proofs.due.Slices.{others, others_are}

or_false : (a : Bool) → a ≡ (a || false)
or_false true = refl
or_false false = refl

or_moved : (a b c : Bool) → ((a || b) || c) ≡ (a || (b || c))
or_moved true b c = refl
or_moved false b c = refl

-- threads that run a code have their next requests out
pub out_in_runs : (code : Code) (contexts : List ThreadContext) → AllByRecursion (ContextRuns code) contexts → AllByRecursion HasNextOut contexts
out_in_runs code [] runs = tt
out_in_runs code (context ∷ contexts) runs = ((λ request next. (runs.0.runs request next).out), out_in_runs code contexts runs.1)

-- so do those of a client that isn't spent, where they run some code
pub out_in_whole : (kept : ClientState) → kept.spent ≡ None → WhileWhole kept (RunsSomeCode kept) → AllByRecursion HasNextOut kept.contexts.items
out_in_whole kept none runs = let it = runs (ap is_some none) in out_in_runs it.code kept.contexts.items it.runs

-- a thread that has ended holds nothing
pub none_held : (code : Code) (t : ThreadId) (thread : Thread) (events : List Event) (old : List ℕ) → ThreadStands code t thread events → None ≡ next_request code t events
    → AddsNamed (holds_then (next_request code) (frames_after code) t events) old old
none_held code t thread events old st none o = or_false (is_listed o old)
    ∙ ap (λ b. is_listed o old || b) (named_over code t thread events o st (over_is thread.due (asks_over code t thread events st (sym none))))

-- one addition behind another
pub added_twice : (first second : ℕ → Bool) (old mid new : List ℕ) → AddsNamed first old mid → AddsNamed second mid new → AddsNamed (λ o. first o || second o) old new
added_twice first second old mid new one two o = two o ∙ ap (λ b. b || second o) (one o) ∙ or_moved (is_listed o old) (first o) (second o)

-- what one thread names, and then what the others do
pub all_added : (contexts : List ThreadContext) (first : ThreadContext) (old mid new : List ℕ) → 1 ≤ length contexts → first ≡ get_or contexts 0 first
    → AddsThread first old mid → AddsThreads (others contexts) mid new → AddsThreads contexts old new
all_added [] first old mid new some its one later code p c es h = absurd (omega (arith, some))
all_added (context ∷ contexts) first old mid new some its one later code p c es h =
    let here = subst (λ x. AddsThread x old mid) its one in
    let more = subst (λ rest. AddsThreads rest mid new) (others_are context contexts) later in
    let names = thread_holds p (next_request code) (frames_after code) in
    added_twice (names context.id es) (λ o. list_any (λ x. names x.id es o) contexts) old mid new (here code p c es h.0) (more code p c es h.1)

-- the threads of a client that stands for entries stand for them each
pub each_stands : (code : Code) (p : Settings) (c : ℕ) (kept : ClientState) (es : List Entry) → ClientStands code p c kept es → AllByRecursion (IsStanding code p c es) kept.contexts.items
each_stands code p c kept es h = all kept.contexts.items h.parts.contexts h.threads
  where
    all : (contexts : List ThreadContext) → AllByRecursion (ContextStands (point code p c es)) contexts
        → AllByRecursion (λ context. ThreadStands code context.id context.thread (events_in context.id es)) contexts → AllByRecursion (IsStanding code p c es) contexts
    all [] parts threads = tt
    all (context ∷ contexts) parts threads = (record { kept = parts.0; thread = threads.0; once = h.parts.facts.once context.id }, all contexts parts.1 threads.1)

-- what is told of contexts by their threads
any_thread : (test : ThreadId → Bool) (contexts : List ThreadContext) → list_any (λ context. test context.id) contexts ≡ list_any test (map (λ context. context.id) contexts)
any_thread test [] = refl
any_thread test (context ∷ contexts) = ap (λ b. test context.id || b) (any_thread test contexts)

-- what all threads name is what the client's do
pub all_named : (kept : ClientState) (named : List ℕ) → AddsThreads kept.contexts.items [] named → TellsNamed kept named
all_named kept named added code p c es h o = added code p c es (each_stands code p c kept es h) o
    ∙ any_thread (λ t. thread_holds p (next_request code) (frames_after code) t es o) kept.contexts.items
    ∙ ap (list_any (λ t. thread_holds p (next_request code) (frames_after code) t es o)) h.parts.places

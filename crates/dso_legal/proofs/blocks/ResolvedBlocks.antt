-- The history is the one that was made, each notification that left the choice to the server with whom it chose; and in a journal
-- without waits it is just the one that was made.
use Rattle.std.specs.List.{AllByRecursion}
use Rattle.std.proofs.Common.{ℕ, ◌≡◌, refl, sym, ◌∙◌, ap, subst, Bool, true, false, cond, Option, Some, None, List, [], ◌∷◌, ◌++◌}
use Rattle.dso_base.specs.declared.journal.Entry.{Entry}
use Rattle.dso_base.specs.declared.journal.Input.{Input}
use Rattle.dso_base.specs.declared.journal.Input.TheVariants as input
use Rattle.dso_base.specs.declared.journal.Node.{Node}
use Rattle.dso_base.specs.declared.journal.Node.TheVariants.{Server, Client}
use Rattle.dso_base.specs.declared.lock.LockName.{LockName}
use Rattle.dso_base.specs.declared.lock.ThreadId.{ThreadId}
use Rattle.dso_base.specs.declared.message.Up.TheVariants as up
use Rattle.dso_base.specs.declared.request.Event.{Event}
use Rattle.dso_base.specs.declared.request.Event.TheVariants.{Act, Lost}
use Rattle.dso_base.specs.declared.request.Reply.{Reply}
use Rattle.dso_base.specs.declared.request.Request.{Request}
use Rattle.dso_base.specs.declared.request.Request.TheVariants.{Notify}
use Rattle.dso_plain.specs.History.{is_act_of, events_of}
use Rattle.dso_law.specs.Entries.{entries_of}
use Rattle.dso_law.specs.ServerReadings.{is_lost, counted}
use Rattle.dso_law.specs.ServerWaiters.{waiters_of}
use Rattle.dso_legal.specs.AsMade.{made_by, made_at, as_made}
use Rattle.dso_law.specs.Settings.{Settings}
use Rattle.dso_legal.specs.Blocks.{is_act_at, acts_at, HasFirstEndings, HistoriesHoldBlocks, HistoriesHoldEvents, HistoriesHoldBlocksAsMade}
use Rattle.dso_legal.specs.Lawful.{AllFollow}
use Rattle.dso_legal.specs.Committed.{ended_blocks, block_numbered, block_taken, woken_there, lists_after_event, resolved_event, resolved, committed_by, committed_at, committed}
use Rattle.dso_legal.specs.Resolved.{IsResolved, AreResolved}
use Rattle.dso_legal.specs.WithoutWaits.{waits_or_notifies, is_wait, HasNoWait, WithoutWaits}
use Rattle.dso_legal.proofs.blocks.EachEvent.{AtClient, each_follows, each_made}
use Rattle.dso_legal.proofs.blocks.Histories.{history_holds, holds_blocks}
use Rattle.dso_legal.proofs.records.HandedIn.{few_taken}

-- a block that the server resolves is resolved event by event
pub are_resolved : (block : List Event) (lists : LockName → List ThreadId) → AreResolved block (resolved block lists)
are_resolved [] lists = tt
are_resolved (event ∷ block) lists = (record { lists = lists; same = refl }, are_resolved block (lists_after_event event lists))

-- what is resolved in two parts is resolved
pub resolved_both : (mades events mades' events' : List Event) → AreResolved mades events → AreResolved mades' events' → AreResolved (mades ++ mades') (events ++ events')
resolved_both [] [] mades' events' first second = second
resolved_both [] (event ∷ events) mades' events' first second = absurd first
resolved_both (made ∷ mades) [] mades' events' first second = absurd first
resolved_both (made ∷ mades) (event ∷ events) mades' events' first second = (first.0, resolved_both mades events mades' events' first.1 second)

-- a resolved event is of the same thread
same_thread_acts : (t : ThreadId) (made event : Event) → IsResolved made event → is_act_of t event ≡ is_act_of t made
same_thread_acts t made event is = ap (is_act_of t) is.same ∙ by made
  where
    by : (made : Event) → is_act_of t (resolved_event made is.lists) ≡ is_act_of t made
    by (Act u request reply woken) = refl
    by (Lost client) = refl

-- each thread's events are resolved where all are
pub resolved_of : (t : ThreadId) (mades events : List Event) → AreResolved mades events → AreResolved (events_of t mades) (events_of t events)
resolved_of t [] [] are = tt
resolved_of t [] (event ∷ events) are = absurd are
resolved_of t (made ∷ mades) [] are = absurd are
resolved_of t (made ∷ mades) (event ∷ events) are = subst (λ b. AreResolved (events_of t (made ∷ mades)) (cond b (event ∷ events_of t events) (events_of t events))) (sym (same_thread_acts t made event are.0))
    (by (is_act_of t made) (resolved_of t mades events are.1))
  where
    by : (b : Bool) → AreResolved (events_of t mades) (events_of t events) → AreResolved (cond b (made ∷ events_of t mades) (events_of t mades)) (cond b (event ∷ events_of t events) (events_of t events))
    by true later = (are.0, later)
    by false later = later

-- and those of a client
resolved_at : (c : ℕ) (mades events : List Event) → AreResolved mades events → AreResolved (acts_at c mades) (acts_at c events)
resolved_at c [] [] are = tt
resolved_at c [] (event ∷ events) are = absurd are
resolved_at c (made ∷ mades) [] are = absurd are
resolved_at c (made ∷ mades) (event ∷ events) are = subst (λ b. AreResolved (acts_at c (made ∷ mades)) (cond b (event ∷ acts_at c events) (acts_at c events))) (sym (ap (is_act_at c) are.0.same ∙ same made))
    (by (is_act_at c made) (resolved_at c mades events are.1))
  where
    same : (made : Event) → is_act_at c (resolved_event made are.0.lists) ≡ is_act_at c made
    same (Act u request reply woken) = refl
    same (Lost client) = refl

    by : (b : Bool) → AreResolved (acts_at c mades) (acts_at c events) → AreResolved (cond b (made ∷ acts_at c mades) (acts_at c mades)) (cond b (event ∷ acts_at c events) (acts_at c events))
    by true later = (are.0, later)
    by false later = later

-- what an entry gives is resolved
given_resolved : (i : Input) (es : List Entry) → AreResolved (made_by i es) (committed_by i es)
given_resolved (input.TookUp c (up.Commit txn)) es = by (is_lost c (entries_of Server es))
  where
    block : List Event
    block = block_numbered txn.seq (ended_blocks (entries_of (Client c) es))

    by : (b : Bool) → AreResolved (cond b [] block) (cond b [] (block_taken c txn.seq es))
    by true = tt
    by false = are_resolved block (λ l. waiters_of l (counted (entries_of Server es)))
given_resolved (input.Lose c) es = (record { lists = λ l. []; same = refl }, tt)
given_resolved i es = tt

given_at : (node : Node) (i : Input) (es : List Entry) → AreResolved (made_at node i es) (committed_at node i es)
given_at Server i es = given_resolved i es
given_at (Client c) i es = tt

-- The history is the one that was made, resolved.
pub history_resolved : (es : List Entry) → AreResolved (as_made es) (committed es)
history_resolved [] = tt
history_resolved (e ∷ es) = resolved_both (as_made es) (committed es) (made_at e.node e.input es) (committed_at e.node e.input es) (history_resolved es) (given_at e.node e.input es)

-- who woke nobody left no choice
woken_as_said : (request : Request) (reply : Reply) (woken : Option ThreadId) (lists : LockName → List ThreadId) → waits_or_notifies request ≡ false → woken_there request reply woken lists ≡ woken
woken_as_said (Notify l) reply woken lists calm = absurd (cc calm)
woken_as_said request reply woken lists calm = refl

-- an event that doesn't wait is resolved as it stands
as_it_stands : (made event : Event) → is_wait made ≡ false → IsResolved made event → event ≡ made
as_it_stands (Act t request reply woken) event calm is = is.same ∙ ap (λ chosen. Act t request reply chosen) (woken_as_said request reply woken is.lists calm)
as_it_stands (Lost client) event calm is = is.same

-- so are such events
resolved_calm : (mades events : List Event) → AllByRecursion (λ event. is_wait event ≡ false) mades → AreResolved mades events → events ≡ mades
resolved_calm [] [] calm are = refl
resolved_calm [] (event ∷ events) calm are = absurd are
resolved_calm (made ∷ mades) [] calm are = absurd are
resolved_calm (made ∷ mades) (event ∷ events) calm are = ap (λ e. e ∷ events) (as_it_stands made event calm.0 are.0) ∙ ap (λ es. made ∷ es) (resolved_calm mades events calm.1 are.1)

-- an entry without a wait has no event that is one
no_wait : (node : Node) (event : Option Event) → HasNoWait event → AtClient (λ event. is_wait event ≡ false) node event
no_wait Server event calm = tt
no_wait (Client c) None calm = tt
no_wait (Client c) (Some event) calm = calm

-- In a journal without waits the history is just the one that was made.
pub history_calm : (es : List Entry) → WithoutWaits es → committed es ≡ as_made es
history_calm es calm = resolved_calm (as_made es) (committed es)
    (each_made (λ event. is_wait event ≡ false) (λ c. refl) es (each_follows (λ e. HasNoWait e.event) (λ e. AtClient (λ event. is_wait event ≡ false) e.node e.event) (λ e. no_wait e.node e.event) es calm))
    (history_resolved es)

-- The history has of each client, a lost one too, the blocks of its first endings, resolved:
pub first_endings : (p : Settings) (next : ThreadId → List Event → Option Request) (es : List Entry) → AllFollow p next es → (c : ℕ) → HasFirstEndings c es
first_endings p next es follow c = record {
  few = few_taken p next c es follow;
  blocks = subst (λ acts. AreResolved acts (acts_at c (committed es))) (history_holds p next c es follow) (resolved_at c (as_made es) (committed es) (history_resolved es));
}

pub histories_hold_blocks : HistoriesHoldBlocks
histories_hold_blocks p next es lawful c = first_endings p next es lawful.follow c

-- of each thread the events of these;
pub histories_hold_events : HistoriesHoldEvents
histories_hold_events p next es lawful t = subst (λ events. AreResolved events (events_of t (committed es))) (holds_blocks p next t es lawful.follow)
    (resolved_of t (as_made es) (committed es) (history_resolved es))

-- without waits, just as they were made.
pub histories_hold_blocks_as_made : HistoriesHoldBlocksAsMade
histories_hold_blocks_as_made p next es lawful calm t = ap (events_of t) (history_calm es calm) ∙ holds_blocks p next t es lawful.follow

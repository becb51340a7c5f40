-- What an act makes of a client.
use Rattle.std.specs.List.{list_any}
use Rattle.std.specs.Option.{option_map_or}
use Rattle.std.specs.Prelude.{◌≡◌, ◌≤◌, ℕ, true, Option, Some, None, List, [], ◌∷◌, map}
use Rattle.dso_base.specs.declared.journal.Entry.{Entry}
use Rattle.dso_base.specs.declared.journal.Input.TheVariants as input
use Rattle.dso_base.specs.declared.journal.Node.TheVariants.{Client}
use Rattle.dso_base.specs.declared.journal.Sent.TheVariants.{ToServer}
use Rattle.dso_base.specs.declared.lock.LockName.{LockName}
use Rattle.dso_base.specs.declared.lock.ThreadId.{ThreadId}
use Rattle.dso_base.specs.declared.message.Up.{Up}
use Rattle.dso_base.specs.declared.request.Event.{Event}
use Rattle.dso_base.specs.declared.request.Request.{Request}
use Rattle.dso_base.specs.Following.{is_thread}
use Rattle.dso_law.specs.Settings.{Settings, threads_of}
use Rattle.dso_machine.specs.declared.code.Code.{Code}
use Rattle.dso_client.specs.declared.acted.Acted.{Acted}
use Rattle.dso_client.specs.declared.acted.Acted.TheVariants as acted
use Rattle.dso_client.specs.declared.cause.Cause.{Cause}
use Rattle.dso_client.specs.declared.client_state.ClientState.{ClientState}
use Rattle.dso_client.specs.declared.thread_context.ThreadContext.{ThreadContext}
use Rattle.dso_client.specs.declared.turn.Turn.{Turn}
use Rattle.dso_client.specs.ClientStands.{ClientStands, point}
use Rattle.dso_client.specs.ClientViews.{records_sent, times_held}
use Rattle.dso_client.specs.Entries.{asked_entry}
use Rattle.dso_client.specs.Openings.{thread_at}
use Rattle.dso_client.specs.RunFacts.{SizesAreKept}
use Rattle.dso_client.specs.ContextPlaces.{context_in}
use Rattle.dso_client.specs.Turns.{IsTurn, Waits, IsAnswerable, IsOfNeed}

-- the entry in which a thread of client c acts with this event, and sends these
abbrev pub event_entry : ℕ → ℕ → ℕ → Event → List Up → Entry
event_entry clock c index event sent =
    record { clock = clock; node = Client c; input = input.Act index; sent = map ToServer sent; event = Some event }

-- the thread asks with this message alone, and the client stands for its entries with the one that asks
pub record HasAskedWith (code : Code) (p : Settings) (c clock : ℕ) (es : List Entry) (index : ℕ) (sent : List Up)
    (new : ClientState) : Type 0 where
  pub message : Up
  pub alone : sent ≡ message ∷ []
  pub stands : ClientStands code p c new (asked_entry clock c index message ∷ es)

-- The thread has a next request, and the client rule has no act of it, for this cause: where the request has a reply
-- once its needs are met, for a need that isn't met.
pub record IsBlocked (code : Code) (p : Settings) (c : ℕ) (es : List Entry) (index : ℕ) (told : Cause) : Type 0 where
  pub request : Request
  pub next : (point code p c es).next (thread_at c index) ≡ Some request
  pub waits : Waits (point code p c es) (thread_at c index) request told
  pub exact : IsAnswerable (point code p c es) (thread_at c index) request
      → IsOfNeed (point code p c es) (thread_at c index) request told

-- What the thread of this index did, and what was sent: the client stands for its entries with the one that acts or
-- asks, which follows them by the client rule, since that is part of what it stands for; or the rule has no act, or the
-- thread has ended.
abbrev pub HasActed : Code → Settings → ℕ → ℕ → List Entry → ℕ → Acted → List Up → ClientState → Type 0
HasActed code p c clock es index (acted.Event event) sent new =
    ClientStands code p c new (event_entry clock c index event sent ∷ es)
HasActed code p c clock es index acted.Asked sent new = HasAskedWith code p c clock es index sent new
HasActed code p c clock es index (acted.Blocked told) sent new = IsBlocked code p c es index told
HasActed code p c clock es index acted.Over sent new = (point code p c es).next (thread_at c index) ≡ None

-- so for whatever entries the client stood for, where the thread's next request and what its turn comes to are these
abbrev pub TakesTurn : Code → ℕ → Request → Turn → ClientState → ClientState → Acted → List Up → Type 0
TakesTurn code index request turn old new acted sent = (p : Settings) (c clock : ℕ) (es : List Entry)
    → ClientStands code p c old es
    → list_any (is_thread (thread_at c index)) (threads_of p c) ≡ true
    → (point code p c es).next (thread_at c index) ≡ Some request
    → IsTurn (point code p c es) (thread_at c index) request turn
    → HasActed code p c clock es index acted sent new

-- so for whatever entries the client stood for whose sizes are kept, where it has that thread
abbrev pub Acts : Code → ℕ → ClientState → ClientState → Acted → List Up → Type 0
Acts code index old new acted sent = (p : Settings) (c clock : ℕ) (es : List Entry) → ClientStands code p c old es
    → SizesAreKept (point code p c es)
    → list_any (is_thread (thread_at c index)) (threads_of p c) ≡ true
    → HasActed code p c clock es index acted sent new

-- where the thread neither acts nor asks, nothing changes and nothing is sent
abbrev pub LeavesAlone : Acted → List Up → ClientState → ClientState → Type 0
LeavesAlone (acted.Event event) sent old new = Unit {0}
LeavesAlone acted.Asked sent old new = Unit {0}
LeavesAlone (acted.Blocked told) sent old new = (new ≡ old) × (sent ≡ [])
LeavesAlone acted.Over sent old new = (new ≡ old) × (sent ≡ [])

-- the count of the hold that the thread of this context is to have again, 0 where it doesn't wait
abbrev pub count_again : Option ThreadContext → ℕ
count_again context = option_map_or (λ context. option_map_or (λ waiting. waiting.count) context.waiting 0) context 0

-- No lock is held, nor to be held again behind a wait, more often than so.
pub record HoldsAtMost (most : ℕ) (kept : ClientState) : Type 0 where
  pub held : (t : ThreadId) (l : LockName) → times_held kept t l ≤ most
  pub waiting : (index : ℕ) → count_again (context_in kept.contexts.items index) ≤ most

-- no hold, no count that a waiting thread is to have again, and no record is more or less
pub record KeepsCounts (old new : ClientState) : Type 0 where
  pub holds : new.lock_state.holds ≡ old.lock_state.holds
  pub waits : map (λ context. context.waiting) new.contexts.items ≡ map (λ context. context.waiting) old.contexts.items
  pub records : records_sent new ≡ records_sent old

-- An entry without an event leaves how often a client's locks are held, and one that sends no record their number.
use Rattle.std.specs.List.{AllByRecursion}
use Rattle.std.specs.Option.{option_map, option_map_or}
use Rattle.std.proofs.Common.{ℕ, zero, suc, ◌≤◌, ◌≡◌, refl, sym, ◌∙◌, ap, subst, Option, Some, None, List, [], ◌∷◌, map, slice_get, arith}
use Rattle.dso_base.specs.declared.journal.Entry.{Entry}
use Rattle.dso_base.specs.declared.journal.Sent.TheVariants.{ToServer}
use Rattle.dso_base.specs.declared.lock.LockName.{LockName}
use Rattle.dso_base.specs.declared.lock.ThreadId.{ThreadId}
use Rattle.dso_base.specs.declared.message.Up.TheVariants as up
use Rattle.dso_base.specs.declared.request.Request.{Request}
use Rattle.dso_client.specs.declared.client_state.ClientState.{ClientState}
use Rattle.dso_client.specs.declared.thread_context.ThreadContext.{ThreadContext}
use Rattle.dso_client.specs.ThreadActs.{HoldsAtMost, count_again}
use Rattle.dso_client.specs.ClientStands.{ClientStands, point}
use Rattle.dso_client.specs.LockStateStands.{as_hold}
use Rattle.dso_client.specs.RunPoints.{RunPoint}
use Rattle.dso_client.specs.ContextPlaces.{context_in}
use Rattle.dso_client.specs.ContextStands.{ContextStands}
use Rattle.dso_hold.specs.declared.held.Held.{Held}
use Rattle.dso_hold.specs.Holds.{count_at, hold_in}
use Rattle.dso_law.specs.ClientStep.{returns}
use Rattle.dso_law.specs.Closing.{due}
use Rattle.dso_law.specs.ClientWaiters.{client_list}
use Rattle.dso_law.specs.Entries.{by_event, by_sent_up, unsent}
use Rattle.dso_law.specs.Records.{records, records_by_sent}
use Rattle.dso_law.specs.Settings.{Settings}
use Rattle.dso_law.specs.Threads.{locks_after, locks_of}
use Rattle.dso_law.specs.Threads as Threads
use Rattle.dso_machine.specs.declared.code.Code.{Code}
use Rattle.dso_plain.specs.State.{Hold}

-- holds that tell one thing are counted alike
same_count : (one other : Option Held) → option_map as_hold one ≡ option_map as_hold other → count_at one ≡ count_at other
same_count None None same = refl
same_count None (Some held) same = absurd (cc same)
same_count (Some held) None same = absurd (cc same)
same_count (Some held) (Some other) same = let one : as_hold held ≡ as_hold other = cc same in ap (λ (hold : Hold). hold.count) one

-- a seat at a place stands
context_stands : (at : RunPoint) (contexts : List ThreadContext) (place : ℕ) (context : ThreadContext) → AllByRecursion (ContextStands at) contexts → slice_get contexts place ≡ Some context → ContextStands at context
context_stands at [] place context all is = absurd (cc is)
context_stands at (first ∷ contexts) zero context all is = subst (ContextStands at) (cc is) all.0
context_stands at (first ∷ contexts) (suc place) context all is = context_stands at contexts place context all.1 is

-- what stands at a place of a list stands there of one that is alike
alike : {A B : Type 0} (f : A → B) (xs ys : List A) (place : ℕ) (y : A) → map f xs ≡ map f ys → slice_get ys place ≡ Some y → (x : A) × (slice_get xs place ≡ Some x) × (f x ≡ f y)
alike f xs [] place y same is = absurd (cc is)
alike f [] (first ∷ ys) place y same is = absurd (cc same)
alike f (one ∷ xs) (first ∷ ys) zero y same is = (one, refl, (let h : f one ≡ f first = cc same in h ∙ ap f (cc is)))
alike f (one ∷ xs) (first ∷ ys) (suc place) y same is = alike f xs ys place y (cc same) is

module _ (code : Code) (p : Settings) (c : ℕ) (e : Entry) (es : List Entry) (old new : ClientState) (quiet : e.event ≡ None)
    (before : ClientStands code p c old es) (after : ClientStands code p c new (e ∷ es)) where
  same_locks : (t : ThreadId) → locks_of t (e ∷ es) ≡ locks_of t es
  same_locks t = ap (λ event. by_event (locks_after t) event (locks_of t es)) quiet

  -- No lock is held more often than before.
  pub holds_kept : (most : ℕ) → HoldsAtMost most old → HoldsAtMost most new
  holds_kept most few = record {
    held = λ t l.
        let told = after.parts.lock_state.holds t l ∙ ap (λ locks. Threads.hold_in l locks.holds) (same_locks t) ∙ sym (before.parts.lock_state.holds t l) in
        let same : count_at (hold_in new.lock_state.holds (l, t)) ≡ count_at (hold_in old.lock_state.holds (l, t)) = same_count (hold_in new.lock_state.holds (l, t)) (hold_in old.lock_state.holds (l, t)) told in
        let h = few.held t l in
        omega (arith, same, h);
    waiting = λ index. again index;
  }
    where
      again : (index : ℕ) → count_again (context_in new.contexts.items index) ≤ most
      again zero = omega arith
      again (suc place) = by (slice_get new.contexts.items place) refl
        where
          by : (context : Option ThreadContext) → slice_get new.contexts.items place ≡ context → count_again context ≤ most
          by None is = omega arith
          by (Some context) is =
              let there = alike (λ context. context.id) old.contexts.items new.contexts.items place context (before.parts.places ∙ sym after.parts.places) is in
              let now = context_stands (point code p c (e ∷ es)) new.contexts.items place context after.parts.contexts is in
              let then = context_stands (point code p c es) old.contexts.items place there.0 before.parts.contexts there.1 in
              let waiting = now.waiting ∙ ap (λ locks. locks.waiting) (same_locks context.id) ∙ ap (λ t. (locks_of t es).waiting) (sym there.2) ∙ sym then.waiting in
              let same : count_again (Some context) ≡ count_again (context_in old.contexts.items (suc place)) = ap (λ waiting. option_map_or (λ waiting. waiting.count) waiting 0) waiting ∙ sym (ap count_again there.1) in
              let h = few.waiting (suc place) in
              omega (arith, same, h)

-- leases that are given back are no records
no_record : (entries : List Entry) (locks : List LockName) (n : ℕ) → by_sent_up records_by_sent (map ToServer (map (λ l. up.Return l (client_list l entries)) locks)) n ≡ n
no_record entries [] n = refl
no_record entries (l ∷ locks) n = no_record entries locks n

-- Where an entry only gives leases back, there are as many records as before.
pub records_kept : (code : Code) (p : Settings) (c : ℕ) (e : Entry) (es : List Entry) (old new : ClientState) (after : ThreadId → Option Request) → e.sent ≡ map ToServer (returns p c after (unsent e ∷ es))
    → ClientStands code p c old es → ClientStands code p c new (e ∷ es) → new.sequences.records ≡ old.sequences.records
records_kept code p c e es old new next sends before after = after.parts.sequences.records
    ∙ ap (λ sent. by_sent_up records_by_sent sent (records es)) sends ∙ no_record (unsent e ∷ es) (due p c next (unsent e ∷ es)) (records es)
    ∙ sym before.parts.sequences.records

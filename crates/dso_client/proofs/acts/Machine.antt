-- The acting thread has gone on to its next request.
use Rattle.std.specs.List.{AllByRecursion}
use Rattle.std.proofs.Common.{◌≡◌, ◌≢◌, ℕ, sym, ◌∙◌, ap, subst, false, cond, Option, Some, List, [], ◌∷◌, ◌++◌, map, length}
use Rattle.dso_base.specs.declared.journal.Entry.{Entry}
use Rattle.dso_base.specs.declared.lock.ThreadId.{ThreadId}
use Rattle.dso_base.specs.declared.request.Event.TheVariants.{Act}
use Rattle.dso_base.specs.declared.request.Reply.{Reply}
use Rattle.dso_base.specs.declared.request.Request.{Request}
use Rattle.dso_base.specs.Following.{is_thread}
use Rattle.dso_plain.proofs.keys.SameKeys.{thread_self}
use Rattle.dso_law.specs.Entries.{events_in}
use Rattle.dso_machine.specs.declared.code.Code.{Code}
use Rattle.dso_machine.specs.Next.{next_request}
use Rattle.dso_machine.specs.Standing.{ThreadStands}
use Rattle.dso_client.specs.declared.answered.Answered.{Answered}
use Rattle.dso_client.specs.declared.thread_context.ThreadContext.{ThreadContext}
use Rattle.dso_client.specs.CodeRuns.{ContextRuns}
use Rattle.dso_client.specs.ThreadProgress.{HasGoneOn, with_next, with_context}
use Rattle.dso_client.specs.ActEffects.{event_of, applied_entry}
use Rattle.dso_client.specs.Openings.{thread_at, first_threads}
use Rattle.dso_client.specs.ContextPlaces.{context_in}
use Rattle.dso_client.proofs.contexts.ContextsFound.{context_is}
use Rattle.dso_client.proofs.acts.Places.{context_set, context_of_all, set_there, twice, changed_is}
use Rattle.dso_client.proofs.sent.Parts.{other_thread}

-- the events with the one of the act, at its thread, and elsewhere
pub events_here : (clock c : ℕ) (act : Answered) (es : List Entry) (t : ThreadId) → t ≡ act.thread → events_in t (applied_entry clock c act ∷ es) ≡ events_in t es ++ event_of act ∷ []
events_here clock c act es t same = ap (λ b. cond b (events_in t es ++ event_of act ∷ []) (events_in t es)) (ap (λ u. is_thread u act.thread) same ∙ thread_self act.thread)

pub events_there : (clock c : ℕ) (act : Answered) (es : List Entry) (t : ThreadId) → is_thread t act.thread ≡ false → events_in t (applied_entry clock c act ∷ es) ≡ events_in t es
events_there clock c act es t other = ap (λ b. cond b (events_in t es ++ event_of act ∷ []) (events_in t es)) other

-- the contexts where the thread of the index has this next request
pub next_set : (contexts : List ThreadContext) (index : ℕ) (next : Option Request) (context : ThreadContext) → context_in contexts index ≡ Some context → with_next index next contexts ≡ with_context index (record context { next = next }) contexts
next_set contexts index next context e = changed_is contexts index (λ context. record context { next = next }) context e

module _ (code : Code) (clock c index : ℕ) (act : Answered) (es : List Entry) (old new : List ThreadContext) (next : Option Request) (its : act.thread ≡ thread_at c index)
    (numbered : map (λ context. context.id) old ≡ first_threads c (length old)) (h : HasGoneOn code index act.reply old new next) where
  mine : h.context.id ≡ act.thread
  mine = context_is c old index h.context numbered h.there ∙ sym its

  others : (k : ℕ) (context : ThreadContext) → k ≢ index → context_in old k ≡ Some context → is_thread context.id act.thread ≡ false
  others k context differ there = ap (λ t. is_thread t act.thread) (context_is c old k context numbered there) ∙ (ap (λ t. is_thread (thread_at c k) t) its ∙ other_thread c k index differ)

  -- each thread stands for its events with the act
  pub threads_gone_on : AllByRecursion (λ (context : ThreadContext). ThreadStands code context.id context.thread (events_in context.id es)) old
      → AllByRecursion (λ (context : ThreadContext). ThreadStands code context.id context.thread (events_in context.id (applied_entry clock c act ∷ es))) new
  threads_gone_on stands = subst (AllByRecursion (λ (context : ThreadContext). ThreadStands code context.id context.thread (events_in context.id (applied_entry clock c act ∷ es)))) (sym h.set)
      (context_set (λ (context : ThreadContext). ThreadStands code context.id context.thread (events_in context.id es)) (λ (context : ThreadContext). ThreadStands code context.id context.thread (events_in context.id (applied_entry clock c act ∷ es)))
      old index h.context (record h.context { thread = h.thread }) h.there stands (acted (context_of_all (λ (context : ThreadContext). ThreadStands code context.id context.thread (events_in context.id es)) old index h.context stands h.there))
      (λ k context differ there s. subst (ThreadStands code context.id context.thread) (sym (events_there clock c act es context.id (others k context differ there))) s))
    where
      acted : ThreadStands code h.context.id h.context.thread (events_in h.context.id es) → ThreadStands code h.context.id h.thread (events_in h.context.id (applied_entry clock c act ∷ es))
      acted s = subst (ThreadStands code h.context.id h.thread)
          (ap (λ t. events_in h.context.id es ++ Act t act.request act.reply act.woken ∷ []) mine ∙ sym (events_here clock c act es h.context.id mine))
          (h.goes.stands (events_in h.context.id es) act.request act.woken s)

  -- the next request of each thread behind the act
  pub asks_next : AllByRecursion (λ (context : ThreadContext). ThreadStands code context.id context.thread (events_in context.id es)) old → next ≡ next_request code h.context.id (events_in h.context.id (applied_entry clock c act ∷ es))
  asks_next stands = h.goes.asks (events_in h.context.id es) act.request act.woken (context_of_all (λ (context : ThreadContext). ThreadStands code context.id context.thread (events_in context.id es)) old index h.context stands h.there)
      ∙ ap (next_request code h.context.id) (ap (λ t. events_in h.context.id es ++ Act t act.request act.reply act.woken ∷ []) mine ∙ sym (events_here clock c act es h.context.id mine))

-- The threads run the code still.
pub runs_gone_on : (code : Code) (index : ℕ) (reply : Reply) (old new : List ThreadContext) (next : Option Request) → HasGoneOn code index reply old new next → AllByRecursion (ContextRuns code) old
    → AllByRecursion (ContextRuns code) (with_next index next new)
runs_gone_on code index reply old new next h runs =
    let gone = record h.context { thread = h.thread } in
    let there : context_in new index ≡ Some gone = ap (λ contexts. context_in contexts index) h.set ∙ set_there old index h.context gone h.there in
    subst (AllByRecursion (ContextRuns code)) (sym (next_set new index next gone there ∙ (ap (with_context index (record gone { next = next })) h.set ∙ twice old index gone (record gone { next = next }))))
    (context_set (ContextRuns code) (ContextRuns code) old index h.context (record gone { next = next }) h.there runs (record { runs = h.goes.runs }) (λ k context differ at s. s))

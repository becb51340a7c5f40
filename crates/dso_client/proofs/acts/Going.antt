-- All that a client keeps, where a thread of it has gone on to its next request.
use Rattle.std.specs.List.{AllByRecursion}
use Rattle.std.proofs.Common.{◌≡◌, ℕ, zero, suc, refl, sym, ◌∙◌, ap, subst, Option, Some, None, List, [], ◌∷◌, map, length, slice_get}
use Rattle.std.proofs.lemmas.List.{length-map}
use Rattle.dso_base.specs.declared.lock.ThreadId.{ThreadId}
use Rattle.dso_base.specs.declared.request.Reply.{Reply}
use Rattle.dso_base.specs.declared.request.Request.{Request}
use Rattle.dso_machine.specs.declared.code.Code.{Code}
use Rattle.dso_machine.specs.declared.thread.Thread.{Thread}
use Rattle.dso_client.specs.declared.client_state.ClientState.{ClientState}
use Rattle.dso_client.specs.declared.thread_context.ThreadContext.{ThreadContext}
use Rattle.dso_client.specs.SentRecords.{replaced_at}
use Rattle.dso_client.specs.ThreadProgress.{HasGoneOn, with_next}
use Rattle.dso_client.specs.StateStands.{StateStands}
use Rattle.dso_client.specs.SequencesStand.{SequencesStand}
use Rattle.dso_client.specs.LockStateStands.{LockStateStands}
use Rattle.dso_client.specs.Openings.{first_threads}
use Rattle.dso_client.specs.RunPoints.{RunPoint}
use Rattle.dso_client.specs.ContextPlaces.{running}
use Rattle.dso_client.specs.ContextStands.{ContextStands}
use Rattle.dso_client.specs.TableStands.{TableStands}
use Rattle.dso_client.proofs.acts.Places.{context_set, context_of_all, told_set}

module _ (at : RunPoint) (code : Code) (reply : Reply) (old new : ClientState) (index : ℕ) (next : Option Request) (gone : HasGoneOn code index reply old.contexts.items new.contexts.items next)
    (others : new ≡ record old { contexts = new.contexts }) where
  abbrev now : ThreadContext
  now = record gone.context { thread = gone.thread }

  ids : map (λ (context : ThreadContext). context.id) new.contexts.items ≡ map (λ (context : ThreadContext). context.id) old.contexts.items
  ids = ap (map (λ (context : ThreadContext). context.id)) gone.set ∙ told_set (λ (context : ThreadContext). context.id) old.contexts.items index gone.context now gone.there refl

  many : length old.contexts.items ≡ length new.contexts.items
  many = sym (length-map old.contexts.items (λ (context : ThreadContext). context.id)) ∙ (ap length (sym ids) ∙ length-map new.contexts.items (λ (context : ThreadContext). context.id))

  same_stands : ContextStands at gone.context → ContextStands at now
  same_stands s = record { next = s.next; work = s.work; seen = s.seen; waiting = s.waiting; marked = s.marked; last = s.last }

  -- it stands as it stood: nothing of it is of the machines
  pub kept_gone : StateStands at old → StateStands at new
  kept_gone h = record {
    number = ap (λ (kept : ClientState). kept.number) others ∙ h.number;
    places = ids ∙ h.places;
    numbered = ids ∙ (h.numbered ∙ ap (first_threads at.client) many);
    contexts = subst (AllByRecursion (ContextStands at)) (sym gone.set) (context_set (ContextStands at) (ContextStands at) old.contexts.items index gone.context now gone.there h.contexts
        (same_stands (context_of_all (ContextStands at) old.contexts.items index gone.context h.contexts gone.there)) (λ k context differ there s. s));
    table = subst (TableStands at) (sym (ap (λ (kept : ClientState). kept.table) others)) h.table;
    lock_state = subst (LockStateStands at) (sym (ap (λ (kept : ClientState). kept.lock_state) others)) h.lock_state;
    sequences = subst (SequencesStand at) (sym (ap (λ (kept : ClientState). kept.sequences) others)) h.sequences;
    facts = h.facts;
  }

-- all waits are as they were
pub waits_gone : (code : Code) (index : ℕ) (reply : Reply) (old new : List ThreadContext) (next : Option Request) → HasGoneOn code index reply old new next
    → map (λ context. context.waiting) new ≡ map (λ context. context.waiting) old
waits_gone code index reply old new next gone = ap (map (λ (context : ThreadContext). context.waiting)) gone.set
    ∙ told_set (λ (context : ThreadContext). context.waiting) old index gone.context (record gone.context { thread = gone.thread }) gone.there refl

-- threads that run alike run alike with another next request of one
pub running_next : (xs ys : List ThreadContext) (index : ℕ) (next : Option Request) → map running xs ≡ map running ys → map running (with_next index next xs) ≡ map running (with_next index next ys)
running_next xs ys zero next same = same
running_next xs ys (suc at) next same = by xs ys at same
  where
    alike : (x y : ThreadContext) → running x ≡ running y → running (record x { next = next }) ≡ running (record y { next = next })
    alike x y e = ap (λ (r : ThreadId × Thread × Option Request). (r.0, r.1, next)) e

    by : (xs ys : List ThreadContext) (at : ℕ) → map running xs ≡ map running ys → map running (replaced_at at (λ context. record context { next = next }) (slice_get xs at) xs) ≡ map running (replaced_at at (λ context. record context { next = next }) (slice_get ys at) ys)
    by [] [] at e = refl
    by [] (y ∷ ys) at e = absurd (cc e)
    by (x ∷ xs) [] at e = absurd (cc e)
    by (x ∷ xs) (y ∷ ys) zero e =
        let first : running x ≡ running y = cc e in
        let rest : map running xs ≡ map running ys = cc e in
        λ i. alike x y first i ∷ rest i
    by (x ∷ xs) (y ∷ ys) (suc at) e = behind (slice_get xs at) (slice_get ys at) (by xs ys at (cc e))
      where
        first : running x ≡ running y
        first = cc e

        behind : (a b : Option ThreadContext) → map running (replaced_at at (λ context. record context { next = next }) a xs) ≡ map running (replaced_at at (λ context. record context { next = next }) b ys)
            → map running (replaced_at (suc at) (λ context. record context { next = next }) a (x ∷ xs)) ≡ map running (replaced_at (suc at) (λ context. record context { next = next }) b (y ∷ ys))
        behind None None h = λ i. first i ∷ h i
        behind None (Some b) h = λ i. first i ∷ h i
        behind (Some a) None h = λ i. first i ∷ h i
        behind (Some a) (Some b) h = λ i. first i ∷ h i

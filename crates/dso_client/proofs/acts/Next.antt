-- The acting thread has its new next request, the others have theirs.
use Rattle.std.proofs.Common.{◌≡◌, ◌≢◌, ℕ, sym, ◌∙◌, ap, subst, Option, Some, map, length}
use Rattle.std.proofs.lemmas.List.{length-map}
use Rattle.dso_base.specs.declared.lock.ThreadId.{ThreadId}
use Rattle.dso_base.specs.declared.request.Request.{Request}
use Rattle.dso_table.specs.declared.tables.ObjectTables.{ObjectTables}
use Rattle.dso_client.specs.declared.client_state.ClientState.{ClientState}
use Rattle.dso_client.specs.declared.sequences.Sequences.{Sequences}
use Rattle.dso_client.specs.declared.lock_state.LockState.{LockState}
use Rattle.dso_client.specs.declared.thread_context.ThreadContext.{ThreadContext}
use Rattle.dso_client.specs.ThreadProgress.{with_next, with_context}
use Rattle.dso_client.specs.StateStands.{ClientPartsStand}
use Rattle.dso_client.specs.SequencesStand.{SequencesStand}
use Rattle.dso_client.specs.LockStateStands.{LockStateStands}
use Rattle.dso_client.specs.Openings.{first_threads}
use Rattle.dso_client.specs.RunPoints.{RunPoint}
use Rattle.dso_client.specs.ContextPlaces.{context_in}
use Rattle.dso_client.specs.ContextStands.{ContextStands}
use Rattle.dso_client.specs.TableStands.{TableStands}
use Rattle.std.specs.List.{AllByRecursion}
use Rattle.dso_client.proofs.acts.Machine.{next_set}
use Rattle.dso_client.proofs.acts.Places.{context_set, context_of_all, told_set}

module _ (at : RunPoint) (later : ThreadId → Option Request) where
  -- the point with these next requests
  abbrev pub then : RunPoint
  then = record at { next = later }

  pub table_then : (table : ObjectTables) → TableStands at table → TableStands then table
  table_then table h = record { bodies = h.bodies; asked = h.asked; marks = h.marks; opened = h.opened; wanted = h.wanted; room = h.room; count = h.count; acked = h.acked; order = h.order }

  pub lock_state_then : (lock_state : LockState) → LockStateStands at lock_state → LockStateStands then lock_state
  lock_state_then lock_state h = record { holds = h.holds; leases = h.leases; lists = h.lists }

  pub sequences_then : (sequences : Sequences) → SequencesStand at sequences → SequencesStand then sequences
  sequences_then sequences h = record { ids = h.ids; bounded = h.bounded; end = h.end; asking = h.asking; records = h.records; unacked = h.unacked }

  context_then : (context : ThreadContext) (next : Option Request) → next ≡ later context.id → ContextStands at context → ContextStands then (record context { next = next })
  context_then context next is h = record { next = is; work = h.work; seen = h.seen; waiting = h.waiting; marked = h.marked; last = h.last }

  context_as_before : (context : ThreadContext) → at.next context.id ≡ later context.id → ContextStands at context → ContextStands then context
  context_as_before context same h = record { next = h.next ∙ same; work = h.work; seen = h.seen; waiting = h.waiting; marked = h.marked; last = h.last }

  module _ (old new : ClientState) (index : ℕ) (context : ThreadContext) (next : Option Request) (there : context_in old.contexts.items index ≡ Some context) (here : next ≡ later context.id)
      (others : (k : ℕ) (other : ThreadContext) → k ≢ index → context_in old.contexts.items k ≡ Some other → at.next other.id ≡ later other.id) where
    -- so all parts stand there
    pub parts_then : new.number ≡ old.number → new.table ≡ old.table → new.lock_state ≡ old.lock_state → new.sequences ≡ old.sequences
        → new.contexts.items ≡ with_next index next old.contexts.items → ClientPartsStand at old → ClientPartsStand then new
    parts_then number table lock_state sequences contexts h = record {
      number = number ∙ h.number;
      places = ids ∙ h.places;
      numbered = ids ∙ (h.numbered ∙ ap (first_threads at.client) (sym many));
      contexts = subst (AllByRecursion (ContextStands then)) (sym set) (context_set (ContextStands at) (ContextStands then) old.contexts.items index context (record context { next = next }) there h.contexts
          (context_then context next here (context_of_all (ContextStands at) old.contexts.items index context h.contexts there)) (λ k other differ is s. context_as_before other (others k other differ is) s));
      table = subst (TableStands then) (sym table) (table_then old.table h.table);
      lock_state = subst (LockStateStands then) (sym lock_state) (lock_state_then old.lock_state h.lock_state);
      sequences = subst (SequencesStand then) (sym sequences) (sequences_then old.sequences h.sequences);
    }
      where
        set : new.contexts.items ≡ with_context index (record context { next = next }) old.contexts.items
        set = contexts ∙ next_set old.contexts.items index next context there

        ids : map (λ (x : ThreadContext). x.id) new.contexts.items ≡ map (λ (x : ThreadContext). x.id) old.contexts.items
        ids = ap (map (λ (x : ThreadContext). x.id)) set ∙ told_set (λ (x : ThreadContext). x.id) old.contexts.items index context (record context { next = next }) there (λ i. context.id)

        many : length new.contexts.items ≡ length old.contexts.items
        many = sym (length-map new.contexts.items (λ (x : ThreadContext). x.id)) ∙ (ap length ids ∙ length-map old.contexts.items (λ (x : ThreadContext). x.id))

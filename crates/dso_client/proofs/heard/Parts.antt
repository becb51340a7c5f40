-- What stands of all parts once a message was taken.
use Rattle.std.specs.List.{AllByRecursion}
use Rattle.std.proofs.Common.{◌≡◌, ℕ, sym, ◌∙◌, ap, subst, map, length}
use Rattle.std.proofs.lemmas.List.{length-map}
use Rattle.dso_base.specs.declared.lock.LockName.{LockName}
use Rattle.dso_base.specs.declared.message.Down.{Down}
use Rattle.dso_base.specs.declared.message.Down.TheVariants as down
use Rattle.dso_table.specs.declared.tables.ObjectTables.{ObjectTables}
use Rattle.dso_client.specs.declared.client_state.ClientState.{ClientState}
use Rattle.dso_client.specs.declared.sequences.Sequences.{Sequences}
use Rattle.dso_client.specs.declared.lock_state.LockState.{LockState}
use Rattle.dso_client.specs.declared.thread_context.ThreadContext.{ThreadContext}
use Rattle.dso_client.specs.MessageEffects.{heard}
use Rattle.dso_client.specs.StateStands.{StateStands, ClientPartsStand}
use Rattle.dso_client.specs.SequencesStand.{SequencesStand}
use Rattle.dso_client.specs.LockStateStands.{LockStateStands}
use Rattle.dso_client.specs.Openings.{thread_at, first_threads}
use Rattle.dso_client.specs.RunPoints.{RunPoint}
use Rattle.dso_client.specs.ContextPlaces.{with_mark}
use Rattle.dso_client.specs.ContextStands.{ContextStands}
use Rattle.dso_client.specs.TableStands.{TableStands}
use Rattle.dso_client.proofs.contexts.AtStart.{all_as}
use Rattle.dso_client.proofs.heard.Leaves.{LeavesContext, context_kept, table_kept, lock_state_kept, sequences_kept}
use Rattle.dso_client.proofs.heard.Wakes.{ids_kept, wake_heard}

module _ (clock : ℕ) (at : RunPoint) (old : ClientState) (h : StateStands at old) where
  -- a message that wakes nobody
  pub parts_heard : (m : Down) → LeavesContext m → (table : ObjectTables) (lock_state : LockState) (sequences : Sequences) → TableStands (heard clock m at) table
      → LockStateStands (heard clock m at) lock_state → SequencesStand (heard clock m at) sequences → ClientPartsStand (heard clock m at) (record old { table = table; lock_state = lock_state; sequences = sequences })
  parts_heard m leaves table lock_state sequences of_table of_lock_state of_sequences = record {
    number = h.number;
    places = h.places;
    numbered = h.numbered;
    contexts = all_as (ContextStands at) (ContextStands (heard clock m at)) (λ context s. context_kept clock m at context leaves s) old.contexts.items h.contexts;
    table = of_table;
    lock_state = of_lock_state;
    sequences = of_sequences;
  }

  -- one that wakes the thread of this index
  pub parts_woken : (l : LockName) (index : ℕ) (new : ClientState) → new.number ≡ old.number → new.contexts.items ≡ with_mark index old.contexts.items → new.table ≡ old.table
      → new.lock_state ≡ old.lock_state → new.sequences ≡ old.sequences → ClientPartsStand (heard clock (down.Wake l (thread_at at.client index)) at) new
  parts_woken l index new number contexts table lock_state sequences =
      let m = down.Wake l (thread_at at.client index) in
      let ids : map (λ (context : ThreadContext). context.id) new.contexts.items ≡ map (λ (context : ThreadContext). context.id) old.contexts.items = ap (map (λ (context : ThreadContext). context.id)) contexts ∙ ids_kept old.contexts.items index in
      let many : length old.contexts.items ≡ length new.contexts.items = sym (length-map old.contexts.items (λ (context : ThreadContext). context.id)) ∙ (ap length (sym ids) ∙ length-map new.contexts.items (λ (context : ThreadContext). context.id)) in
      record {
        number = number ∙ h.number;
        places = ids ∙ h.places;
        numbered = ids ∙ (h.numbered ∙ ap (first_threads at.client) many);
        contexts = subst (AllByRecursion (ContextStands (heard clock m at))) (sym contexts) (wake_heard clock at l old.contexts.items index h.numbered h.contexts);
        table = subst (TableStands (heard clock m at)) (sym table) (table_kept clock m at old.table tt h.table);
        lock_state = subst (LockStateStands (heard clock m at)) (sym lock_state) (lock_state_kept clock m at old.lock_state tt h.lock_state);
        sequences = subst (SequencesStand (heard clock m at)) (sym sequences) (sequences_kept clock m at old.sequences tt h.sequences);
      }

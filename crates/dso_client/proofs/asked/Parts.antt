-- All that a client keeps once a thread asked for what it lacks.
use Rattle.std.proofs.Common.{◌≡◌, ℕ, refl, true}
use Rattle.dso_base.specs.declared.message.Up.{Up}
use Rattle.dso_base.specs.declared.message.Up.TheVariants as up
use Rattle.dso_table.specs.declared.tables.ObjectTables.{ObjectTables}
use Rattle.dso_client.specs.declared.client_state.ClientState.{ClientState}
use Rattle.dso_client.specs.declared.sequences.Sequences.{Sequences}
use Rattle.dso_client.specs.declared.lock_state.LockState.{LockState}
use Rattle.dso_client.specs.declared.thread_context.ThreadContext.{ThreadContext}
use Rattle.dso_client.specs.AskedActs.{asked, IsMissing}
use Rattle.dso_client.specs.StateStands.{StateStands, ClientPartsStand}
use Rattle.dso_client.specs.SequencesStand.{SequencesStand}
use Rattle.dso_client.specs.LockStateStands.{LockStateStands}
use Rattle.dso_client.specs.RunPoints.{RunPoint}
use Rattle.dso_client.specs.ContextStands.{ContextStands}
use Rattle.dso_client.specs.TableStands.{TableStands}
use Rattle.dso_client.proofs.contexts.AtStart.{all_as}

module _ (clock index : ℕ) (at : RunPoint) where
  context_asked : (m : Up) → IsMissing at.entries m → (context : ThreadContext) → ContextStands at context → ContextStands (asked clock index m at) context
  context_asked up.IdAsk missing context h = record { next = h.next; work = h.work; seen = h.seen; waiting = h.waiting; marked = h.marked; last = h.last }
  context_asked (up.Fault o) missing context h = record { next = h.next; work = h.work; seen = h.seen; waiting = h.waiting; marked = h.marked; last = h.last }
  context_asked (up.Request l level) missing context h = record { next = h.next; work = h.work; seen = h.seen; waiting = h.waiting; marked = h.marked; last = h.last }
  context_asked m missing context h = absurd missing

  pub lock_state_ids : (part : LockState) → LockStateStands at part → LockStateStands (asked clock index up.IdAsk at) part
  lock_state_ids part h = record { holds = h.holds; leases = h.leases; lists = h.lists }

  pub lock_state_object : (o : ℕ) (part : LockState) → LockStateStands at part → LockStateStands (asked clock index (up.Fault o) at) part
  lock_state_object o part h = record { holds = h.holds; leases = h.leases; lists = h.lists }

  pub sequences_ids : (part : Sequences) → SequencesStand at part → SequencesStand (asked clock index up.IdAsk at) (record part { is_asking = true })
  sequences_ids part h = record { ids = h.ids; bounded = h.bounded; end = h.end; asking = refl; records = h.records; unacked = h.unacked }

  pub sequences_kept : (m : Up) → IsMissing at.entries m → (m ≡ up.IdAsk → ⊥) → (part : Sequences) → SequencesStand at part → SequencesStand (asked clock index m at) part
  sequences_kept up.IdAsk missing other part h = absurd (other refl)
  sequences_kept (up.Fault o) missing other part h = record { ids = h.ids; bounded = h.bounded; end = h.end; asking = h.asking; records = h.records; unacked = h.unacked }
  sequences_kept (up.Request l level) missing other part h = record { ids = h.ids; bounded = h.bounded; end = h.end; asking = h.asking; records = h.records; unacked = h.unacked }
  sequences_kept m missing other part h = absurd missing

  pub parts_asked : (m : Up) → IsMissing at.entries m → (old : ClientState) → StateStands at old → (table : ObjectTables) (lock_state : LockState) (sequences : Sequences) → TableStands (asked clock index m at) table
      → LockStateStands (asked clock index m at) lock_state → SequencesStand (asked clock index m at) sequences → ClientPartsStand (asked clock index m at) (record old { table = table; lock_state = lock_state; sequences = sequences })
  parts_asked m missing old h table lock_state sequences of_table of_lock_state of_sequences = record {
    number = h.number;
    places = h.places;
    numbered = h.numbered;
    contexts = all_as (ContextStands at) (ContextStands (asked clock index m at)) (context_asked m missing) old.contexts.items h.contexts;
    table = of_table;
    lock_state = of_lock_state;
    sequences = of_sequences;
  }

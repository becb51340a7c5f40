-- What a message that is taken leaves as it was.
use Rattle.std.proofs.Common.{ℕ}
use Rattle.dso_base.specs.declared.message.Down.{Down}
use Rattle.dso_base.specs.declared.message.Down.TheVariants as down
use Rattle.dso_table.specs.declared.tables.ObjectTables.{ObjectTables}
use Rattle.dso_client.specs.declared.sequences.Sequences.{Sequences}
use Rattle.dso_client.specs.declared.lock_state.LockState.{LockState}
use Rattle.dso_client.specs.declared.thread_context.ThreadContext.{ThreadContext}
use Rattle.dso_client.specs.MessageEffects.{heard}
use Rattle.dso_client.specs.SequencesStand.{SequencesStand}
use Rattle.dso_client.specs.LockStateStands.{LockStateStands}
use Rattle.dso_client.specs.RunPoints.{RunPoint}
use Rattle.dso_client.specs.ContextStands.{ContextStands}
use Rattle.dso_client.specs.TableStands.{TableStands}

-- which messages leave it
abbrev pub LeavesContext : Down → Type 0
LeavesContext (down.Ids first) = Unit {0}
LeavesContext (down.Object body) = Unit {0}
LeavesContext (down.Grant l level) = Unit {0}
LeavesContext (down.Recall l) = Unit {0}
LeavesContext (down.Ack seq) = Unit {0}
LeavesContext (down.Changes sets) = Unit {0}
LeavesContext (down.Wake l t) = ⊥

pub context_kept : (clock : ℕ) (m : Down) (at : RunPoint) (part : ThreadContext) → LeavesContext m → ContextStands at part → ContextStands (heard clock m at) part
context_kept clock (down.Ids first) at part leaves h = record { next = h.next; work = h.work; seen = h.seen; waiting = h.waiting; marked = h.marked; last = h.last }
context_kept clock (down.Object body) at part leaves h = record { next = h.next; work = h.work; seen = h.seen; waiting = h.waiting; marked = h.marked; last = h.last }
context_kept clock (down.Grant l level) at part leaves h = record { next = h.next; work = h.work; seen = h.seen; waiting = h.waiting; marked = h.marked; last = h.last }
context_kept clock (down.Recall l) at part leaves h = record { next = h.next; work = h.work; seen = h.seen; waiting = h.waiting; marked = h.marked; last = h.last }
context_kept clock (down.Ack seq) at part leaves h = record { next = h.next; work = h.work; seen = h.seen; waiting = h.waiting; marked = h.marked; last = h.last }
context_kept clock (down.Changes sets) at part leaves h = record { next = h.next; work = h.work; seen = h.seen; waiting = h.waiting; marked = h.marked; last = h.last }
context_kept clock (down.Wake l t) at part leaves h = absurd leaves

-- which messages leave it
abbrev pub LeavesTable : Down → Type 0
LeavesTable (down.Ids first) = Unit {0}
LeavesTable (down.Object body) = ⊥
LeavesTable (down.Grant l level) = Unit {0}
LeavesTable (down.Recall l) = Unit {0}
LeavesTable (down.Ack seq) = ⊥
LeavesTable (down.Changes sets) = ⊥
LeavesTable (down.Wake l t) = Unit {0}

pub table_kept : (clock : ℕ) (m : Down) (at : RunPoint) (part : ObjectTables) → LeavesTable m → TableStands at part → TableStands (heard clock m at) part
table_kept clock (down.Ids first) at part leaves h = record { bodies = h.bodies; asked = h.asked; marks = h.marks; opened = h.opened; wanted = h.wanted; room = h.room; count = h.count; acked = h.acked; order = h.order }
table_kept clock (down.Object body) at part leaves h = absurd leaves
table_kept clock (down.Grant l level) at part leaves h = record { bodies = h.bodies; asked = h.asked; marks = h.marks; opened = h.opened; wanted = h.wanted; room = h.room; count = h.count; acked = h.acked; order = h.order }
table_kept clock (down.Recall l) at part leaves h = record { bodies = h.bodies; asked = h.asked; marks = h.marks; opened = h.opened; wanted = h.wanted; room = h.room; count = h.count; acked = h.acked; order = h.order }
table_kept clock (down.Ack seq) at part leaves h = absurd leaves
table_kept clock (down.Changes sets) at part leaves h = absurd leaves
table_kept clock (down.Wake l t) at part leaves h = record { bodies = h.bodies; asked = h.asked; marks = h.marks; opened = h.opened; wanted = h.wanted; room = h.room; count = h.count; acked = h.acked; order = h.order }

-- which messages leave it
abbrev pub LeavesLockState : Down → Type 0
LeavesLockState (down.Ids first) = Unit {0}
LeavesLockState (down.Object body) = Unit {0}
LeavesLockState (down.Grant l level) = ⊥
LeavesLockState (down.Recall l) = ⊥
LeavesLockState (down.Ack seq) = Unit {0}
LeavesLockState (down.Changes sets) = Unit {0}
LeavesLockState (down.Wake l t) = Unit {0}

pub lock_state_kept : (clock : ℕ) (m : Down) (at : RunPoint) (part : LockState) → LeavesLockState m → LockStateStands at part → LockStateStands (heard clock m at) part
lock_state_kept clock (down.Ids first) at part leaves h = record { holds = h.holds; leases = h.leases; lists = h.lists }
lock_state_kept clock (down.Object body) at part leaves h = record { holds = h.holds; leases = h.leases; lists = h.lists }
lock_state_kept clock (down.Grant l level) at part leaves h = absurd leaves
lock_state_kept clock (down.Recall l) at part leaves h = absurd leaves
lock_state_kept clock (down.Ack seq) at part leaves h = record { holds = h.holds; leases = h.leases; lists = h.lists }
lock_state_kept clock (down.Changes sets) at part leaves h = record { holds = h.holds; leases = h.leases; lists = h.lists }
lock_state_kept clock (down.Wake l t) at part leaves h = record { holds = h.holds; leases = h.leases; lists = h.lists }

-- which messages leave it
abbrev pub LeavesSequences : Down → Type 0
LeavesSequences (down.Ids first) = ⊥
LeavesSequences (down.Object body) = Unit {0}
LeavesSequences (down.Grant l level) = Unit {0}
LeavesSequences (down.Recall l) = Unit {0}
LeavesSequences (down.Ack seq) = ⊥
LeavesSequences (down.Changes sets) = Unit {0}
LeavesSequences (down.Wake l t) = Unit {0}

pub sequences_kept : (clock : ℕ) (m : Down) (at : RunPoint) (part : Sequences) → LeavesSequences m → SequencesStand at part → SequencesStand (heard clock m at) part
sequences_kept clock (down.Ids first) at part leaves h = absurd leaves
sequences_kept clock (down.Object body) at part leaves h = record { ids = h.ids; bounded = h.bounded; end = h.end; asking = h.asking; records = h.records; unacked = h.unacked }
sequences_kept clock (down.Grant l level) at part leaves h = record { ids = h.ids; bounded = h.bounded; end = h.end; asking = h.asking; records = h.records; unacked = h.unacked }
sequences_kept clock (down.Recall l) at part leaves h = record { ids = h.ids; bounded = h.bounded; end = h.end; asking = h.asking; records = h.records; unacked = h.unacked }
sequences_kept clock (down.Ack seq) at part leaves h = absurd leaves
sequences_kept clock (down.Changes sets) at part leaves h = record { ids = h.ids; bounded = h.bounded; end = h.end; asking = h.asking; records = h.records; unacked = h.unacked }
sequences_kept clock (down.Wake l t) at part leaves h = record { ids = h.ids; bounded = h.bounded; end = h.end; asking = h.asking; records = h.records; unacked = h.unacked }

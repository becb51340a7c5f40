use Rattle.std.proofs.Common.{◌≡◌, take}
use Rattle.dso_base.specs.declared.message.Down.TheVariants as down
use Rattle.dso_law.specs.Granting.{to_each}
use Rattle.dso_locks.specs.Locks.{messages_of}
use Rattle.dso_locks.specs.Serving.{state_in, Sends}
use Rattle.dso_locks.proofs.lock.recall_all.Given as goal

abbrev pub invariant-loop-client : goal.invariant-loop-client
invariant-loop-client l = (l.lock.name ≡ l.initial.lock.name) × Sends l.initial.lock.name (to_each (down.Recall l.initial.lock.name) (take l.client-index l.clients)) (state_in l.initial.lock) (state_in l.lock) (messages_of l.initial.told.items) (messages_of l.told.items)

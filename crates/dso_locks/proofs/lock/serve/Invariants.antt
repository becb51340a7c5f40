use Rattle.std.proofs.Common.{◌≡◌, length}
use Rattle.dso_locks.specs.Locks.{messages_of}
use Rattle.dso_locks.specs.Serving.{state_in}
use Rattle.dso_locks.proofs.Serving.{IsServing}
use Rattle.dso_locks.proofs.lock.serve.Given as goal

abbrev pub invariant-loop-request : goal.invariant-loop-request
invariant-loop-request l = (l.lock.name ≡ l.initial.lock.name) × IsServing l.initial.lock.name (state_in l.initial.lock) (state_in l.lock) (messages_of l.initial.told.items) (messages_of l.told.items)

abbrev pub decreases-loop-request : goal.decreases-loop-request
decreases-loop-request l = length l.lock.queue

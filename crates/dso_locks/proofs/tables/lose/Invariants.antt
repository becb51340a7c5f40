use Rattle.dso_locks.specs.Locks.{lost_by, messages_of}
use Rattle.dso_locks.proofs.Losing.{IsUnderWay}
use Rattle.dso_locks.proofs.tables.lose.Given as goal

abbrev pub invariant-loop-place : goal.invariant-loop-place
invariant-loop-place l = IsUnderWay (lost_by l.client) l.index l.initial.locks l.locks l.place-iterator (messages_of l.told.items)

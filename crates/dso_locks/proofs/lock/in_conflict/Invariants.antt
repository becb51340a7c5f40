use Rattle.std.proofs.Common.{◌≡◌, ◌++◌, Some, flat_map}
use Rattle.dso_locks.specs.Requests.{waiter_of}
use Rattle.dso_locks.specs.Serving.{against, against_in}
use Rattle.dso_locks.proofs.lock.in_conflict.Given as goal

abbrev pub invariant-loop-client : goal.invariant-loop-client
invariant-loop-client l = l.clients.items ++ flat_map (λ e. against (waiter_of l.request) e.0 (Some e.1)) l.client-iterator ≡ against_in (waiter_of l.request) l.leases

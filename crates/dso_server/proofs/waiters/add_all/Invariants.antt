use Rattle.std.proofs.Common.{◌≡◌, drop}
use Rattle.dso_server.specs.Waiters.{lists_in, lists_returned}
use Rattle.dso_server.proofs.waiters.add_all.Given as goal

abbrev pub invariant-loop-thread : goal.invariant-loop-thread
invariant-loop-thread l = lists_returned l.lock (drop l.thread-index l.threads) (lists_in l.waiters) ≡ lists_returned l.lock l.threads (lists_in l.initial.waiters)

use Rattle.std.proofs.Common.{◌≡◌, ◌++◌, take}
use Rattle.dso_law.specs.ServerWaiters.{wake_each}
use Rattle.dso_server.specs.Sending.{sent_of}
use Rattle.dso_server.proofs.wakes.wake_each.Given as goal

abbrev pub invariant-loop-thread : goal.invariant-loop-thread
invariant-loop-thread l = sent_of l.messages.items ≡ sent_of l.initial.messages.items ++ wake_each l.lock (take l.thread-index l.threads)

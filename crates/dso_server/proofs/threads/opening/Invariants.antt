use Rattle.std.proofs.Common.{◌≡◌, None, drop}
use Rattle.std.specs.List.{list_any}
use Rattle.dso_base.specs.Following.{is_thread}
use Rattle.dso_server.specs.Threads.{known_in, last_in}
use Rattle.dso_server.proofs.lists.ThreadTables.{with_left}
use Rattle.dso_server.proofs.threads.opening.Given as goal

abbrev pub invariant-loop-thread : goal.invariant-loop-thread
invariant-loop-thread l = (with_left (known_in l.all) (drop l.thread-index l.threads) ≡ (λ t. list_any (is_thread t) l.threads)) × (last_in l.all ≡ (λ _. None))

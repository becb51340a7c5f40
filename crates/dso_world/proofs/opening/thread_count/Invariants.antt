use Rattle.std.proofs.Common.{◌≡◌, ◌≤◌, eqb, filter, length, take}
use Rattle.dso_world.proofs.opening.thread_count.Given as goal

abbrev pub invariant-loop-thread : goal.invariant-loop-thread
invariant-loop-thread l = record {
  is : l.count ≡ length (filter (λ t. eqb t.client l.number) (take l.thread-index l.threads));
  few : l.count ≤ l.thread-index;
}

use Rattle.dso_class.proofs.thread_ids.ClientCounts.{IsCountSoFar}
use Rattle.dso_class.proofs.thread.threads_of_client.Given as goal

-- the bodies so far are counted
abbrev pub invariant-loop-body : goal.invariant-loop-body
invariant-loop-body l = IsCountSoFar l.number l.bodies l.body-index l.count

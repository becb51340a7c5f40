use Rattle.dso_client.specs.Openings.{HasThreads}
use Rattle.cluster_cases.proofs.driven.thread_count.Given as goal

abbrev pub invariant-loop-at : goal.invariant-loop-at
invariant-loop-at l = HasThreads l.code l.client l.at

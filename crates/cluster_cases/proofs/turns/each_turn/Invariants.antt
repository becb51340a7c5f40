use Rattle.cluster_cases.specs.Bounds.{ClientKeeps}
use Rattle.cluster_cases.proofs.turns.each_turn.Given as goal

abbrev pub invariant-loop-worker : goal.invariant-loop-worker
invariant-loop-worker l = ClientKeeps l.code l.cell

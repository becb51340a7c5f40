use Rattle.dso_world.specs.NodesStand.{AreClientNodes}
use Rattle.dso_world.proofs.opening.client_nodes.Given as goal

abbrev pub invariant-loop-number : goal.invariant-loop-number
invariant-loop-number l = AreClientNodes l.program l.number l.client_nodes.items

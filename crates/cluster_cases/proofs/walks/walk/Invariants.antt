use Rattle.dso_world.specs.WorldStands.{WorldStands}
use Rattle.cluster_cases.proofs.walks.walk.Given as goal

abbrev pub invariant-loop-draw : goal.invariant-loop-draw
invariant-loop-draw l = WorldStands l.program l.world

use Rattle.dso_world.specs.WorldStands.{WorldStands}
use Rattle.cluster_cases.proofs.runs.run.Given as goal

abbrev pub invariant-loop-turn : goal.invariant-loop-turn
invariant-loop-turn l = WorldStands l.program l.world

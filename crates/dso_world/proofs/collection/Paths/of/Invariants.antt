use Rattle.std.proofs.Common.{List}
use Rattle.dso_base.specs.declared.journal.Entry.{Entry}
use Rattle.dso_class.specs.declared.program.Program.{Program}
use Rattle.dso_world.specs.Collections.{ArePathsOf, IsLawfulOf}
use Rattle.dso_world.specs.NodesStand.{NodesStand}
use Rattle.dso_world.proofs.collection.Paths.of.Given as goal

abbrev pub invariant-loop-place : goal.invariant-loop-place
invariant-loop-place l = (program : Program) (es : List Entry) → IsLawfulOf program es → NodesStand program l.nodes es → ArePathsOf program l.place es l.paths

use Rattle.std.proofs.Common.{◌≡◌, ◌++◌}
use Rattle.dso_store.specs.Collecting.{edges_of}
use Rattle.dso_store.proofs.collecting.edges_in.Given as goal

abbrev pub invariant-loop-object : goal.invariant-loop-object
invariant-loop-object l = l.edges.items ++ edges_of l.object-iterator ≡ edges_of l.bodies.entries

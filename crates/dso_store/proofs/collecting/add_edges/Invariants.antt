use Rattle.std.proofs.Common.{◌≡◌, ◌++◌, take}
use Rattle.dso_store.specs.Collecting.{edges_from}
use Rattle.dso_store.proofs.collecting.add_edges.Given as goal

abbrev pub invariant-loop-value : goal.invariant-loop-value
invariant-loop-value l = l.edges.items ≡ l.initial.edges.items ++ edges_from l.from (take l.value-index l.values)

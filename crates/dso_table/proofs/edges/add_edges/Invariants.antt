use Rattle.std.proofs.Common.{◌≡◌, take}
use Rattle.dso_table.specs.Edges.{with_edges}
use Rattle.dso_table.proofs.edges.add_edges.Given as goal

abbrev pub invariant-loop-value : goal.invariant-loop-value
invariant-loop-value l = l.edges.items ≡ with_edges l.object (take l.value-index l.values) l.initial.edges.items

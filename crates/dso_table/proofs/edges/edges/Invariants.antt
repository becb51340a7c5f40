use Rattle.std.proofs.Common.{ℕ, ◌≡◌, ◌||◌}
use Rattle.dso_lookup.specs.Search.{has_edge}
use Rattle.dso_table.proofs.objects.CopyEdges.{entries_name}
use Rattle.dso_table.proofs.edges.edges.Given as goal

abbrev pub invariant-loop-object : goal.invariant-loop-object
invariant-loop-object l = (a b : ℕ) → (has_edge a b l.edges.items || entries_name l.places a b l.object-iterator) ≡ entries_name l.places a b l.places.index.entries

use Rattle.std.proofs.Common.{◌≡◌, drop}
use Rattle.std.specs.Ordering.{nat_cmp}
use Rattle.dso_lookup.specs.Maps.{look}
use Rattle.dso_store.specs.Graph.{with_sets}
use Rattle.dso_store.proofs.bodies.set_all.Given as goal

abbrev pub invariant-loop-set : goal.invariant-loop-set
invariant-loop-set l = with_sets (drop l.set-index l.sets) (look nat_cmp l.bodies) ≡ with_sets l.sets (look nat_cmp l.initial.bodies)

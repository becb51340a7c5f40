use Rattle.std.proofs.Common.{◌≡◌, ◌++◌, Some, map, take}
use Rattle.dso_store.specs.Graph.{body_in}
use Rattle.dso_show.specs.Published.{objects_of}
use Rattle.dso_show.proofs.shown.add_bodies.Given as goal

abbrev pub invariant-loop-body : goal.invariant-loop-body
invariant-loop-body l = map Some l.bodies.items ≡ map Some l.initial.bodies.items ++ map (body_in l.store) (objects_of (take l.body-index l.news))

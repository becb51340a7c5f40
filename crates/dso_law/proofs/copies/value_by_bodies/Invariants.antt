use Rattle.std.proofs.Common.{◌≡◌, take}
use Rattle.dso_law.specs.Copies.{value_by_bodies}
use Rattle.dso_law.proofs.copies.value_by_bodies.Given as goal

abbrev pub invariant-loop-body : goal.invariant-loop-body
invariant-loop-body l = l.value ≡ value_by_bodies l.object l.field (take l.body-index l.bodies) l.initial.value

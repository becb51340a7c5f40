use Rattle.std.proofs.Common.{◌≡◌, take}
use Rattle.dso_law.specs.Copies.{value_by_sets}
use Rattle.dso_law.proofs.copies.value_by_sets.Given as goal

abbrev pub invariant-loop-set : goal.invariant-loop-set
invariant-loop-set l = l.value ≡ value_by_sets l.object l.field (take l.set-index l.sets) l.initial.value

use Rattle.std.proofs.Common.{◌≡◌, filter, take}
use Rattle.std.specs.Ordering.{nat_cmp}
use Rattle.std.specs.BTreeSet.{contains}
use Rattle.dso_change.proofs.changes.changes_for.Given as goal

abbrev pub invariant-loop-set : goal.invariant-loop-set
invariant-loop-set l = l.changes.items ≡ filter (λ set. contains nat_cmp l.holds set.object) (take l.set-index l.set-items)

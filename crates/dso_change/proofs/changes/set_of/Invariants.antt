use Rattle.std.proofs.Common.{◌≤◌, length, drop}
use Rattle.dso_lookup.specs.Search.{IsSetOf}
use Rattle.dso_change.proofs.changes.set_of.Given as goal

abbrev pub invariant-loop-at : goal.invariant-loop-at
invariant-loop-at l = (l.at ≤ length l.objects) × IsSetOf l.set (drop l.at l.objects)

abbrev pub decreases-loop-at : goal.decreases-loop-at
decreases-loop-at l = l.at

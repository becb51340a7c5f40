use Rattle.std.proofs.Common.{◌≡◌, ◌≤◌, length, drop}
use Rattle.std.specs.Ordering.{nat_cmp}
use Rattle.dso_base.specs.Block.{body_in}
use Rattle.dso_lookup.specs.Maps.{look}
use Rattle.dso_change.proofs.folding.table_of.Given as goal

abbrev pub invariant-loop-at : goal.invariant-loop-at
invariant-loop-at l = (l.at ≤ length l.bodies) × (look nat_cmp l.table ≡ (λ o. body_in o (drop l.at l.bodies)))

abbrev pub decreases-loop-at : goal.decreases-loop-at
decreases-loop-at l = l.at

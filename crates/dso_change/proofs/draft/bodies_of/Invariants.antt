use Rattle.std.proofs.Common.{◌≡◌, ◌++◌}
use Rattle.std.specs.BTreeMap.{btree_map_len}
use Rattle.dso_change.specs.Hands.{values_of}
use Rattle.dso_change.proofs.draft.bodies_of.Given as goal

abbrev pub invariant-loop-body : goal.invariant-loop-body
invariant-loop-body l = l.list ++ values_of l.left ≡ values_of l.initial.left

abbrev pub decreases-loop-body : goal.decreases-loop-body
decreases-loop-body l = btree_map_len l.left

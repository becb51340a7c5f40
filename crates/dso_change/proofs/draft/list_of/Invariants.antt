use Rattle.std.proofs.Common.{◌≡◌, ◌++◌}
use Rattle.std.specs.BTreeMap.{btree_map_len}
use Rattle.dso_change.specs.Hands.{sets_of}
use Rattle.dso_change.proofs.draft.list_of.Given as goal

abbrev pub invariant-loop-object : goal.invariant-loop-object
invariant-loop-object l = l.list ++ sets_of l.left ≡ sets_of l.initial.left

abbrev pub decreases-loop-object : goal.decreases-loop-object
decreases-loop-object l = btree_map_len l.left

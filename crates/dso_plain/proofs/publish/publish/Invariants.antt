use Rattle.std.specs.BTreeSet.{btree_set_len}
use Rattle.dso_plain.specs.TableInvariants.{IndexesAgree}
use Rattle.dso_plain.specs.HeapTables.{state_of}
use Rattle.dso_plain.proofs.publishing.AllShared.{SharesSoFar}
use Rattle.dso_plain.proofs.publish.publish.Given as goal

abbrev pub invariant-loop-object : goal.invariant-loop-object
invariant-loop-object l = SharesSoFar l.initial.reached (state_of l.fn.tables) (state_of l.tables) l.reached × (IndexesAgree l.fn.tables → IndexesAgree l.tables)

abbrev pub decreases-loop-object : goal.decreases-loop-object
decreases-loop-object l = btree_set_len l.reached

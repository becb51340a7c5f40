use Rattle.std.specs.BTreeMap.{btree_map_len}
use Rattle.dso_lookup.specs.Maps.{look}
use Rattle.dso_lookup.specs.Orders.{thread_order}
use Rattle.dso_plain.proofs.table_changes.ClientLeaves.{ClearsSoFar}
use Rattle.dso_plain.proofs.clears.clear_all.Given as goal

abbrev pub invariant-loop-thread : goal.invariant-loop-thread
invariant-loop-thread l = ClearsSoFar l.client (look thread_order l.initial.row) (look thread_order l.row) l.initial.tables l.tables

abbrev pub decreases-loop-thread : goal.decreases-loop-thread
decreases-loop-thread l = btree_map_len l.row

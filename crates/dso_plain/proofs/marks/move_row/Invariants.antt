use Rattle.std.proofs.Common.{◌≡◌}
use Rattle.std.specs.BTreeMap.{btree_map_len}
use Rattle.dso_plain.specs.Changes.{moved}
use Rattle.dso_lookup.specs.Maps.{look}
use Rattle.dso_lookup.specs.Rows.{look_in}
use Rattle.dso_lookup.specs.Orders.{lock_order, thread_order}
use Rattle.dso_plain.proofs.marks.move_row.Given as goal

abbrev pub invariant-loop-thread : goal.invariant-loop-thread
invariant-loop-thread l = moved l.lock (look thread_order l.row) (look_in lock_order thread_order l.marked) ≡ moved l.lock (look thread_order l.initial.row) (look_in lock_order thread_order l.initial.marked)

abbrev pub decreases-loop-thread : goal.decreases-loop-thread
decreases-loop-thread l = btree_map_len l.row

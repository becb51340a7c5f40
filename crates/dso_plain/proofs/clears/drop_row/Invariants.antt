use Rattle.std.proofs.Common.{◌≡◌}
use Rattle.std.specs.BTreeMap.{btree_map_len}
use Rattle.dso_plain.specs.Changes.{dropped}
use Rattle.dso_lookup.specs.Maps.{look}
use Rattle.dso_lookup.specs.Rows.{look_in}
use Rattle.dso_lookup.specs.Orders.{lock_order, thread_order}
use Rattle.dso_plain.proofs.clears.drop_row.Given as goal

abbrev pub decreases-loop-lock : goal.decreases-loop-lock
decreases-loop-lock g l = btree_map_len l.row

abbrev pub invariant-loop-lock : goal.invariant-loop-lock
invariant-loop-lock g l = dropped l.thread (look lock_order l.row) (look_in lock_order thread_order l.table) ≡ dropped l.thread (look lock_order l.initial.row) (look_in lock_order thread_order l.initial.table)

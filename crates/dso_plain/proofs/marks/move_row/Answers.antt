use Rattle.std.proofs.Common.{◌∙◌}
use Rattle.dso_lookup.specs.Maps.{look}
use Rattle.dso_lookup.specs.Rows.{look_in}
use Rattle.dso_lookup.specs.Orders.{lock_order, thread_order}
use Rattle.dso_plain.proofs.table_changes.Notifications.{one_moved, none_moved}
use Rattle.dso_lookup.proofs.MapChanges.{changed_by, emptied}
use Rattle.dso_plain.proofs.marks.move_row.Goals as goal

pub loop-thread-preserved : goal.loop-thread-preserved
loop-thread-preserved c = one_moved c.args.lock c.in-Some.thread c.in-Some.count (look thread_order c.loop-thread.row) (look thread_order c.pop_first.new.self) (look_in lock_order thread_order c.loop-thread.marked) (look_in lock_order thread_order c.put_in.new.rows) c.in-Some.ensures.value (changed_by thread_order c.loop-thread.row c.pop_first.new.self c.in-Some.thread _ c.in-Some.ensures.updates) c.in_ok-put_in.ensures ∙ c.loop-thread.invariant

pub returns : goal.returns
returns c = none_moved c.args.lock (look thread_order c.loop-thread.row) (look_in lock_order thread_order c.loop-thread.marked) (emptied thread_order c.loop-thread.row (λ h. absurd (cc (c.in_default.ensures.variant.1 h)))) ∙ c.loop-thread.invariant

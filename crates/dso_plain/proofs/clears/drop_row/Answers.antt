use Rattle.std.proofs.Common.{ap, ◌∙◌, is_some}
use Rattle.dso_lookup.specs.Maps.{look}
use Rattle.dso_lookup.specs.Rows.{look_in}
use Rattle.dso_lookup.specs.Orders.{lock_order, thread_order}
use Rattle.dso_plain.proofs.table_changes.ThreadLeaves.{one_dropped, none_dropped}
use Rattle.dso_lookup.proofs.MapChanges.{changed_by, emptied}
use Rattle.dso_plain.proofs.clears.drop_row.Goals as goal

pub loop-lock-preserved : goal.loop-lock-preserved
loop-lock-preserved g c = one_dropped c.in-Some.lock c.args.thread (look lock_order c.loop-lock.row) (look lock_order c.pop_first.new.self) (look_in lock_order thread_order c.loop-lock.table) (look_in lock_order thread_order c.discard_in.new.rows) (ap (λ x. is_some x) c.in-Some.ensures.value) (changed_by lock_order c.loop-lock.row c.pop_first.new.self c.in-Some.lock _ c.in-Some.ensures.updates) c.in_ok-discard_in.ensures ∙ c.loop-lock.invariant

pub returns : goal.returns
returns g c = none_dropped c.args.thread (look lock_order c.loop-lock.row) (look_in lock_order thread_order c.loop-lock.table) (emptied lock_order c.loop-lock.row (λ h. absurd (cc (c.in_default.ensures.variant.1 h)))) ∙ c.loop-lock.invariant

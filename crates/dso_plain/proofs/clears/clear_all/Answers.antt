use Rattle.dso_lookup.specs.Maps.{look}
use Rattle.dso_lookup.specs.Orders.{thread_order}
use Rattle.dso_plain.proofs.table_changes.ClientLeaves.{clears_first, clears_next, clears_last}
use Rattle.dso_lookup.proofs.MapChanges.{changed_by, emptied}
use Rattle.dso_plain.proofs.clears.clear_all.Goals as goal

pub loop-thread-init : goal.loop-thread-init
loop-thread-init c = clears_first c.args.client (look thread_order c.args.row) c.args.tables.now c.requires

pub clear_of-requires : goal.clear_of-requires
clear_of-requires c = c.loop-thread.invariant.mirrors

pub loop-thread-preserved : goal.loop-thread-preserved
loop-thread-preserved c = clears_next c.args.client (look thread_order c.args.row) (look thread_order c.loop-thread.row) (look thread_order c.pop_first.new.self) c.args.tables.now c.loop-thread.tables c.clear_of.new.tables c.in-Some.thread c.loop-thread.invariant (changed_by thread_order c.loop-thread.row c.pop_first.new.self c.in-Some.thread _ c.in-Some.ensures.updates) c.in_ok-clear_of.ensures.state c.in_ok-clear_of.ensures.mirrors c.in_ok-clear_of.ensures.threads

pub returns : goal.returns
returns c = clears_last c.args.client (look thread_order c.args.row) (look thread_order c.loop-thread.row) c.args.tables.now c.loop-thread.tables c.loop-thread.invariant (emptied thread_order c.loop-thread.row (λ h. absurd (cc (c.in_default.ensures.variant.1 h))))

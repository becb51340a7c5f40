use Rattle.std.proofs.Common.{sym, ◌∙◌}
use Rattle.dso_lookup.specs.Rows.{look_in}
use Rattle.dso_lookup.specs.Orders.{lock_order, thread_order}
use Rattle.dso_plain.specs.HeapTables.{state_of}
use Rattle.dso_plain.proofs.table_changes.TwoChanges.{went_on, woken}
use Rattle.dso_plain.proofs.changes.resume.Goals as goal

pub returns-in_ok-set_hold-in-Some-clause-state : goal.returns-in_ok-set_hold-in-Some-clause-state
returns-in_ok-set_hold-in-Some-clause-state c = went_on c.args.lock c.args.thread c.in-Some.count (state_of c.args.tables.now) (state_of c.drop_wait.new.tables) (state_of c.set_hold.new.tables) c.in_ok-count.ensures.state c.in_ok-set_hold-in-Some.ensures.state (woken (look_in lock_order thread_order c.args.tables.now.waits (c.args.lock, c.args.thread)) (look_in lock_order thread_order c.args.tables.now.marked (c.args.lock, c.args.thread)) c.in-Some.count (c.requires.agrees.apart c.args.lock c.args.thread) (sym c.in-Some.is ∙ c.in_ok-count.ensures.was))

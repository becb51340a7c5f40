use Rattle.std.proofs.Common.{Some, refl}
use Rattle.dso_hold.proofs.Indexes.{agree_same, agree_both, agree_undone}
use Rattle.dso_lookup.specs.Rows.{look_in}
use Rattle.dso_lookup.specs.Orders.{lock_order, thread_order}
use Rattle.dso_hold.proofs.tables.add.Goals as goal

pub returns-in_err-insert_in-clause-agree : goal.returns-in_err-insert_in-clause-agree
returns-in_err-insert_in-clause-agree c = agree_same c.args.tables.now (record { by_lock = c.args.tables.now.by_lock; by_thread = c.insert_in.new.rows }) c.requires.agree c.args.lock c.args.thread c.in_err-insert_in.ensures.err refl

pub returns-in-Ok-clause-agree : goal.returns-in-Ok-clause-agree
returns-in-Ok-clause-agree c = agree_both c.args.tables.now (record { by_lock = c.insert_in-2.new.rows; by_thread = c.insert_in.new.rows }) c.requires.agree c.args.lock c.args.thread (Some tt) (Some c.args.held) refl c.in_ok-insert_in.ensures.ok c.in-Ok.ensures.ok

pub returns-in-Err-clause-agree : goal.returns-in-Err-clause-agree
returns-in-Err-clause-agree c = agree_undone c.args.tables.now (record { by_lock = c.insert_in-2.new.rows; by_thread = c.remove_in.new.rows }) c.requires.agree c.args.lock c.args.thread (look_in thread_order lock_order c.insert_in.new.rows) c.requires.absent c.in_ok-insert_in.ensures.ok c.remove_in.ensures c.in-Err.ensures.err

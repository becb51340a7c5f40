use Rattle.dso_plain.proofs.table_changes.HoldsAndWaits.{hold_set_state, hold_set_agrees}
use Rattle.dso_plain.proofs.holds.set_hold.Goals as goal

pub returns-clause-state : goal.returns-clause-state
returns-clause-state c = hold_set_state c.args.tables.now c.requires c.args.lock c.args.thread c.args.hold c.put_in.new.rows c.put_in-2.new.rows c.put_in-3.new.rows c.in_ok-put_in.ensures c.in_ok-put_in-2.ensures c.in_ok-put_in-3.ensures

pub returns-clause-agrees : goal.returns-clause-agrees
returns-clause-agrees c = hold_set_agrees c.args.tables.now c.requires c.args.lock c.args.thread c.args.hold c.put_in.new.rows c.put_in-2.new.rows c.put_in-3.new.rows c.in_ok-put_in.ensures c.in_ok-put_in-2.ensures c.in_ok-put_in-3.ensures

use Rattle.dso_plain.proofs.table_changes.HoldsAndWaits.{wait_set_state, wait_set_agrees}
use Rattle.dso_plain.proofs.holds.set_wait.Goals as goal

pub returns-clause-state : goal.returns-clause-state
returns-clause-state c = wait_set_state c.args.tables.now c.requires.agrees c.args.lock c.args.thread c.args.count c.put_in.new.rows c.put_in-2.new.rows c.put_in-3.new.rows c.requires.awake c.in_ok-put_in.ensures c.in_ok-put_in-2.ensures c.in_ok-put_in-3.ensures

pub returns-clause-agrees : goal.returns-clause-agrees
returns-clause-agrees c = wait_set_agrees c.args.tables.now c.requires.agrees c.args.lock c.args.thread c.args.count c.put_in.new.rows c.put_in-2.new.rows c.put_in-3.new.rows c.requires.awake c.in_ok-put_in.ensures c.in_ok-put_in-2.ensures c.in_ok-put_in-3.ensures

use Rattle.dso_plain.proofs.table_changes.HoldsAndWaits.{hold_drop_state, hold_drop_agrees}
use Rattle.dso_plain.proofs.holds.drop_hold.Goals as goal

pub returns-clause-state : goal.returns-clause-state
returns-clause-state c = hold_drop_state c.args.tables.now c.requires c.args.lock c.args.thread c.take_in.new.rows c.take_in-2.new.rows c.in_ok-hold.ensures.gone c.in_ok-take_in.ensures.gone

pub returns-clause-agrees : goal.returns-clause-agrees
returns-clause-agrees c = hold_drop_agrees c.args.tables.now c.requires c.args.lock c.args.thread c.take_in.new.rows c.take_in-2.new.rows c.in_ok-hold.ensures.gone c.in_ok-take_in.ensures.gone

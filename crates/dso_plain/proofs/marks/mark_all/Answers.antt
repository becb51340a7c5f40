use Rattle.dso_plain.proofs.table_changes.Notifications.{mark_all_state, mark_all_agrees}
use Rattle.dso_plain.proofs.marks.mark_all.Goals as goal

pub returns-clause-state : goal.returns-clause-state
returns-clause-state c = mark_all_state c.args.tables.now c.requires c.args.lock c.take_row-row.result c.take_row-row.new.rows c.move_row.new.marked c.take_row-row.ensures.row c.take_row-row.ensures.gone c.in_ok-move_row.ensures

pub returns-clause-agrees : goal.returns-clause-agrees
returns-clause-agrees c = mark_all_agrees c.args.tables.now c.requires c.args.lock c.take_row-row.result c.take_row-row.new.rows c.move_row.new.marked c.take_row-row.ensures.row c.take_row-row.ensures.gone c.in_ok-move_row.ensures

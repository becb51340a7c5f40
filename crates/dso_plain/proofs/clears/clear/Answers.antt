use Rattle.dso_plain.proofs.table_changes.ThreadLeaves.{clear_state, clear_mirrors}
use Rattle.dso_plain.proofs.clears.clear.Goals as goal

pub returns-clause-state : goal.returns-clause-state
returns-clause-state c = clear_state c.args.tables.now c.requires c.args.thread c.take_row-held.new.rows c.take_row-held.result c.drop_row.new.table c.take_row-waiting.new.rows c.take_row-waiting.result c.drop_rows.new.table c.drop_rows.new.other c.take_row-held.ensures.row c.take_row-held.ensures.gone c.in_ok-drop_row.ensures c.take_row-waiting.ensures.row c.take_row-waiting.ensures.gone c.in_ok-drop_rows.ensures.first c.in_ok-drop_rows.ensures.second

pub returns-clause-mirrors : goal.returns-clause-mirrors
returns-clause-mirrors c = clear_mirrors c.args.tables.now c.requires c.args.thread c.take_row-held.new.rows c.take_row-held.result c.drop_row.new.table c.take_row-waiting.new.rows c.take_row-waiting.result c.drop_rows.new.table c.drop_rows.new.other c.take_row-held.ensures.row c.take_row-held.ensures.gone c.in_ok-drop_row.ensures c.take_row-waiting.ensures.row c.take_row-waiting.ensures.gone c.in_ok-drop_rows.ensures.first c.in_ok-drop_rows.ensures.second

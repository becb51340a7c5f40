use Rattle.std.proofs.Common.{sym, ◌∙◌}
use Rattle.dso_plain.proofs.table_changes.Notifications.{mark_state, mark_agrees, mark_again_state, mark_again_agrees}
use Rattle.dso_plain.proofs.marks.mark.Goals as goal

pub returns-in_ok-put_in-in-Some-clause-state : goal.returns-in_ok-put_in-in-Some-clause-state
returns-in_ok-put_in-in-Some-clause-state c = mark_state c.args.tables.now c.requires.agrees c.args.lock c.args.thread c.in-Some.count c.take_in.new.rows c.put_in.new.rows (sym c.in-Some.is ∙ c.in_ok-count.ensures.was) c.in_ok-count.ensures.gone c.in_ok-put_in-in-Some.ensures

pub returns-in_ok-put_in-in-Some-clause-agrees : goal.returns-in_ok-put_in-in-Some-clause-agrees
returns-in_ok-put_in-in-Some-clause-agrees c = mark_agrees c.args.tables.now c.requires.agrees c.args.lock c.args.thread c.in-Some.count c.take_in.new.rows c.put_in.new.rows (sym c.in-Some.is ∙ c.in_ok-count.ensures.was) c.in_ok-count.ensures.gone c.in_ok-put_in-in-Some.ensures

pub returns-in-None-clause-state : goal.returns-in-None-clause-state
returns-in-None-clause-state c = mark_again_state c.args.tables.now c.requires.agrees c.args.lock c.args.thread c.take_in.new.rows c.requires.waits (sym c.in-None.is ∙ c.in_ok-count.ensures.was) c.in_ok-count.ensures.gone

pub returns-in-None-clause-agrees : goal.returns-in-None-clause-agrees
returns-in-None-clause-agrees c = mark_again_agrees c.args.tables.now c.requires.agrees c.args.lock c.args.thread c.take_in.new.rows c.requires.waits (sym c.in-None.is ∙ c.in_ok-count.ensures.was) c.in_ok-count.ensures.gone

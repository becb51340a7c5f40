use Rattle.dso_cell.proofs.serving.Due.{told_break, told_loss, told_none}
use Rattle.dso_cell.proofs.due.due_of.Goals as goal

pub returns-then-is_loss_due : goal.returns-then-is_loss_due
returns-then-is_loss_due c =
    told_loss c.args.core.now c.args.client c.args.end.now c.accepted-taken.result c.is_lost-is_lost.result c.is_loss_due-is_loss_due.result
    c.accepted-taken.ensures c.is_lost-is_lost.ensures c.is_loss_due-is_loss_due.ensures c.if-is_loss_due.true

pub returns-then-is_break_due : goal.returns-then-is_break_due
returns-then-is_break_due c =
    told_break c.args.core.now c.args.client c.args.end.now c.accepted-taken.result c.is_lost-is_lost.result c.is_loss_due-is_loss_due.result
    c.accepted-taken.ensures c.is_lost-is_lost.ensures c.is_loss_due-is_loss_due.ensures
    c.epoch-broke.result c.is_break_due.result c.epoch-broke.ensures c.is_break_due.ensures c.if-is_break_due.true

pub returns-else-is_break_due : goal.returns-else-is_break_due
returns-else-is_break_due c =
    told_none c.args.core.now c.args.client c.args.end.now c.accepted-taken.result c.is_lost-is_lost.result c.is_loss_due-is_loss_due.result
    c.accepted-taken.ensures c.is_lost-is_lost.ensures c.is_loss_due-is_loss_due.ensures
    c.epoch-broke.result c.is_break_due.result c.epoch-broke.ensures c.is_break_due.ensures c.if-is_loss_due.false c.if-is_break_due.false

use Rattle.dso_world.proofs.worlds.Looks.{due_told}
use Rattle.dso_world.proofs.slot_test.due.Goals as goal

pub returns : goal.returns
returns c = λ program. due_told program c.args.number c.args.server.now c.args.client_node.now c.is_lost-is_lost.result c.is_loss_due-is_loss_due.result c.is_break_due-is_break_due.result
    c.taken_up-taken.result c.breaks-broke.result c.is_lost-is_lost.ensures c.taken_up-taken.ensures c.breaks-broke.ensures c.is_loss_due-is_loss_due.ensures c.is_break_due-is_break_due.ensures

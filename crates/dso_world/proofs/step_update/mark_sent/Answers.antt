use Rattle.std.proofs.Common.{◌+◌, arith}
use Rattle.dso_world.proofs.nodes.Stepped.{got}
use Rattle.dso_world.proofs.places.Marking.{one_message}
use Rattle.dso_world.proofs.places.Telling.{tells_both, tells_fewer}
use Rattle.dso_world.proofs.step_update.mark_sent.Goals as goal

pub loop-message-preserved : goal.loop-message-preserved
loop-message-preserved c =
    let i = c.loop-message.message-index in
    tells_fewer c.args.nodes.now c.args.steps.now c.args.chooser.now c.mark_message.new.chooser
    (λ place is. one_message c.args.steps.now place i (i + 1) c.args.sent.now c.message-item.result (omega arith) (got c.args.sent.now i c.message-item.result c.loop-message-test.true c.message-item.is) is)
    (tells_both c.args.nodes.now c.args.steps.now c.args.chooser.now c.loop-message.chooser c.mark_message.new.chooser c.loop-message.invariant c.mark_message.ensures)

use Rattle.dso_world.proofs.places.Telling.{tells_both}
use Rattle.dso_world.proofs.touches.Settling.{own_settles}
use Rattle.dso_world.proofs.step_update.mark_own.Goals as goal

pub returns : goal.returns
returns c =
    let nodes = c.args.made.now.nodes.now in
    let steps = c.args.steps.now in
    let old = c.args.chooser.now in
    own_settles c.args.made.now.asking.now nodes c.args.made.now.entry.now steps c.args.number c.threads_asked_again-threads.result old c.mark_threads.new.chooser
    (tells_both nodes steps old c.mark_step-2.new.chooser c.mark_threads.new.chooser
    (tells_both nodes steps old c.mark_step.new.chooser c.mark_step-2.new.chooser c.mark_step.ensures c.mark_step-2.ensures)
    c.mark_threads.ensures) c.threads_asked_again-threads.ensures

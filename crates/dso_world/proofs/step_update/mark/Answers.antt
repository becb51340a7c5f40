use Rattle.std.proofs.Common.{sym, ◌∙◌, ap, subst}
use Rattle.dso_world.specs.StepUpdates.{IsSentTo, Tells}
use Rattle.dso_world.specs.Touched.{is_touched}
use Rattle.dso_world.specs.WorldSteps.{slot_of}
use Rattle.dso_world.proofs.places.Marking.{all_marked, by_client, by_server}
use Rattle.dso_world.proofs.places.Telling.{tells_both, tells_fewer}
use Rattle.dso_world.proofs.touches.Settling.{settles_both, settles_fewer, told_settles}
use Rattle.dso_world.proofs.step_update.mark.Goals as goal

pub returns-in-Server-clause-flags : goal.returns-in-Server-clause-flags
returns-in-Server-clause-flags c = λ program.
    let words = c.args.made.now.asking.now in
    let nodes = c.args.made.now.nodes.now in
    let entry = c.args.made.now.entry.now in
    let steps = c.args.steps.now in
    let old = c.args.chooser.now in
    let sent = subst (λ sent. Tells nodes steps (IsSentTo sent steps) c.mark_input.new.chooser c.mark_sent.new.chooser) c.as_slice.ensures c.mark_sent.ensures in
    all_marked program words nodes entry steps old c.mark_sent.new.chooser (told_settles words nodes entry steps old c.mark_sent.new.chooser (tells_fewer nodes steps old c.mark_sent.new.chooser
    (λ place touched. by_server steps place entry.input entry.sent touched.0 touched.1 (sym (ap (λ node. is_touched node entry.input entry.sent (slot_of touched.0)) c.in-Server.is) ∙ touched.2))
    (tells_both nodes steps old c.mark_input.new.chooser c.mark_sent.new.chooser c.mark_input.ensures sent))) c.requires.same

pub returns-in-Client-clause-flags : goal.returns-in-Client-clause-flags
returns-in-Client-clause-flags c = λ program.
    let words = c.args.made.now.asking.now in
    let nodes = c.args.made.now.nodes.now in
    let entry = c.args.made.now.entry.now in
    let steps = c.args.steps.now in
    let old = c.args.chooser.now in
    all_marked program words nodes entry steps old c.mark_step.new.chooser (settles_fewer words nodes entry steps old c.mark_step.new.chooser
    (λ place touched. by_client steps place c.in-Client.number entry.input entry.sent touched.0 touched.1 (sym (ap (λ node. is_touched node entry.input entry.sent (slot_of touched.0)) c.in-Client.is) ∙ touched.2))
    (settles_both words nodes entry steps old c.mark_own.new.chooser c.mark_step.new.chooser c.mark_own.ensures (told_settles words nodes entry steps c.mark_own.new.chooser c.mark_step.new.chooser c.mark_step.ensures))) c.requires.same

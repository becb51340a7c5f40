use Rattle.std.proofs.Common.{sym, ◌∙◌, ap, subst}
use Rattle.dso_plain.specs.After.{after}
use Rattle.dso_plain.specs.Possible.{May}
use Rattle.dso_plain.specs.HeapTables.{state_of}
use Rattle.dso_run.proofs.Replaying.{possible, leads}
use Rattle.dso_run.proofs.replay.play_all.Goals as goal

pub play-requires : goal.play-requires
play-requires c =
    let event = c.event-item.result in
    subst (May c.args.shape.now event) (sym c.loop-event.invariant) (possible c.args.shape.now c.args.events.now (state_of c.args.plain.now) c.loop-event.event-index event c.loop-event-test.true c.event-item.is c.requires)

pub loop-event-preserved : goal.loop-event-preserved
loop-event-preserved c =
    let event = c.event-item.result in
    c.in_ok-play.ensures ∙ (ap (after c.args.shape.now event) c.loop-event.invariant ∙ leads c.args.shape.now c.args.events.now (state_of c.args.plain.now) c.loop-event.event-index event c.loop-event-test.true c.event-item.is c.requires)

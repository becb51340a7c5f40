use Rattle.std.proofs.Common.{sym, subst}
use Rattle.dso_machine.specs.Standing.{ThreadStands}
use Rattle.report_cases.proofs.Replays.{can_follow, taken_more}
use Rattle.report_cases.proofs.next_request.follow_all.Goals as goal

-- the thread can follow each event in its turn
pub follow-requires-clause-next : goal.follow-requires-clause-next
follow-requires-clause-next c =
    can_follow c.args.code.now c.args.thread c.args.events.now c.loop-event.run c.loop-event.event-index _ c.loop-event-test.true c.requires.follows c.loop-event.invariant

-- it stands for that event, too
pub loop-event-preserved : goal.loop-event-preserved
loop-event-preserved c =
    subst (λ es. ThreadStands c.args.code.now c.args.thread c.follow.new.run es) (sym (taken_more c.args.code.now c.args.thread c.args.events.now c.loop-event.event-index _ c.loop-event-test.true))
    (c.in_ok-follow.ensures _ c.loop-event.invariant)

use Rattle.std.proofs.Common.{sym, subst, ◌∙◌}
use Rattle.dso_plain.proofs.keys.SameKeys.{same_thread}
use Rattle.report_cases.specs.LegalRun.{CanFollow}
use Rattle.report_cases.proofs.Replays.{goes}
use Rattle.report_cases.proofs.next_request.follow.Goals as goal

-- a thread that has made an act more goes on
pub next-requires-clause-goes : goal.next-requires-clause-goes
next-requires-clause-goes c =
    let act = c.in-Act in
    goes c.args.code.now c.args.thread act.actor c.args.run.now act.request act.reply act.woken (subst (CanFollow c.args.code.now c.args.thread c.args.run.now) act.is c.requires.next)
    (same_thread c.args.thread act.actor (sym c.eq.ensures ∙ c.if-eq.true))

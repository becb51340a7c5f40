use Rattle.std.proofs.Common.{◌≡◌, ℕ}
use Rattle.dso_base.specs.declared.request.Reply.TheVariants.{Done}
use Rattle.dso_law.specs.Threads.{locks_of}
use Rattle.dso_client.specs.ActEffects.{HoldsStand, applied}
use Rattle.dso_client.specs.RunPoints.{RunPoint}
use Rattle.dso_client.specs.RunFacts.{RunFacts}
use Rattle.dso_client.specs.Turns.{AnswersNext}
use Rattle.dso_client.proofs.replies.Outcomes.{on_ok}
use Rattle.dso_client.proofs.hold_effect.apply_to_holds.Goals as goal

pub returns-in-Done-clause-stands : goal.returns-in-Done-clause-stands
returns-in-Done-clause-stands c =
    let act = c.args.act in
    let old = c.args.holds.now in
    let new = c.done_holds.new.holds in
    on_ok c.done_holds.result
    ((clock : ℕ) (at : RunPoint) → HoldsStand at old → RunFacts at → act.reply ≡ Done → c.args.waiting ≡ (locks_of act.thread at.entries).waiting → AnswersNext at act.thread act.request act.reply act.woken
    → HoldsStand (applied clock act at) new)
    ((clock : ℕ) (at : RunPoint) → HoldsStand at old → RunFacts at → c.args.waiting ≡ (locks_of act.thread at.entries).waiting → AnswersNext at act.thread act.request act.reply act.woken
    → HoldsStand (applied clock act at) new)
    (λ stands. λ clock at h facts waits answers. stands clock at h facts c.in-Done.is waits answers) c.done_holds.ensures.stands

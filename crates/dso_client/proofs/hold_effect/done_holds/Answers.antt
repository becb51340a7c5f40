use Rattle.std.proofs.Common.{◌≡◌, ◌≤◌, ℕ, suc}
use Rattle.dso_base.specs.declared.request.Reply.TheVariants.{Done}
use Rattle.dso_base.specs.declared.request.Request.TheVariants.{Enter, Resume}
use Rattle.dso_law.specs.Threads.{locks_of}
use Rattle.dso_client.specs.LockEntries.{count_owed}
use Rattle.dso_client.specs.ActEffects.{CountsAtMost, HoldsStand, applied}
use Rattle.dso_client.specs.RunPoints.{RunPoint}
use Rattle.dso_client.specs.RunFacts.{RunFacts}
use Rattle.dso_client.specs.Turns.{AnswersNext}
use Rattle.dso_client.proofs.replies.Outcomes.{on_ok}
use Rattle.dso_client.proofs.hold_effect.done_holds.Goals as goal

pub returns-in-Enter-clause-stands : goal.returns-in-Enter-clause-stands
returns-in-Enter-clause-stands c =
    let act = c.args.act in
    let old = c.args.holds.now in
    let new = c.apply_enter.new.holds in
    on_ok c.apply_enter.result
    ((clock : ℕ) (at : RunPoint) → HoldsStand at old → RunFacts at → act.request ≡ Enter c.in-Enter.lock c.in-Enter.level → act.reply ≡ Done → AnswersNext at act.thread act.request act.reply act.woken
    → HoldsStand (applied clock act at) new)
    ((clock : ℕ) (at : RunPoint) → HoldsStand at old → RunFacts at → act.reply ≡ Done → c.args.waiting ≡ (locks_of act.thread at.entries).waiting → AnswersNext at act.thread act.request act.reply act.woken
    → HoldsStand (applied clock act at) new)
    (λ stands. λ clock at h facts done waits answers. stands clock at h facts c.in-Enter.is done answers) c.apply_enter.ensures.stands

pub returns-in-Enter-clause-most : goal.returns-in-Enter-clause-most
returns-in-Enter-clause-most c =
    let old = c.args.holds.now in
    let new = c.apply_enter.new.holds in
    on_ok c.apply_enter.result ((most : ℕ) → CountsAtMost most old → CountsAtMost (suc most) new)
    ((most : ℕ) → CountsAtMost most old → count_owed c.args.waiting ≤ most → CountsAtMost (suc most) new)
    (λ counts. λ most h few. counts most h) c.apply_enter.ensures.most

pub returns-in-Exit-clause-stands : goal.returns-in-Exit-clause-stands
returns-in-Exit-clause-stands c = λ clock at h facts done waits answers. c.apply_exit.ensures.stands clock at h facts c.in-Exit.is done

pub returns-in-Wait-clause-stands : goal.returns-in-Wait-clause-stands
returns-in-Wait-clause-stands c = λ clock at h facts done waits answers. c.apply_wait.ensures.stands clock at h c.in-Wait.is done

pub returns-in-Resume-clause-stands : goal.returns-in-Resume-clause-stands
returns-in-Resume-clause-stands c =
    let act = c.args.act in
    let old = c.args.holds.now in
    let new = c.apply_resume.new.holds in
    on_ok c.apply_resume.result
    ((clock : ℕ) (at : RunPoint) → HoldsStand at old → RunFacts at → act.request ≡ Resume c.in-Resume.lock → act.reply ≡ Done → c.args.waiting ≡ (locks_of act.thread at.entries).waiting
    → AnswersNext at act.thread act.request act.reply act.woken → HoldsStand (applied clock act at) new)
    ((clock : ℕ) (at : RunPoint) → HoldsStand at old → RunFacts at → act.reply ≡ Done → c.args.waiting ≡ (locks_of act.thread at.entries).waiting → AnswersNext at act.thread act.request act.reply act.woken
    → HoldsStand (applied clock act at) new)
    (λ stands. λ clock at h facts done waits answers. stands clock at h facts c.in-Resume.is done waits answers) c.apply_resume.ensures.stands

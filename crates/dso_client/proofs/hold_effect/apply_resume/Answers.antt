use Rattle.std.proofs.Common.{◌≡◌, ◌≤◌, ℕ, sym, ◌∙◌, ap, subst, Some}
use Rattle.std.specs.Option.{IfSome}
use Rattle.dso_base.specs.declared.lock.Level.TheVariants.{Write}
use Rattle.dso_base.specs.declared.request.Reply.TheVariants.{Done}
use Rattle.dso_base.specs.declared.request.Request.TheVariants.{Resume}
use Rattle.dso_hold.specs.Holds.{NoConflict, hold_in, with_hold}
use Rattle.dso_law.specs.Threads as law
use Rattle.dso_law.specs.Threads.{Waiting, locks_by, locks_of, resumed}
use Rattle.dso_client.specs.ActEffects.{HoldsStand, applied}
use Rattle.dso_client.specs.RunPoints.{RunPoint}
use Rattle.dso_client.specs.RunFacts.{RunFacts}
use Rattle.dso_client.specs.Turns.{AnswersNext}
use Rattle.dso_client.proofs.replies.Outcomes.{on_ok}
use Rattle.dso_client.proofs.applied.Entered.{resume_let_in}
use Rattle.dso_client.proofs.applied.Holds.{hold_changed}
use Rattle.dso_client.proofs.hold_effect.apply_resume.Goals as goal

pub returns-in-Some-clause-stands : goal.returns-in-Some-clause-stands
returns-in-Some-clause-stands c =
    let act = c.args.act in
    let t = act.thread in
    let l = c.args.lock in
    let n = c.count.result in
    let old = c.args.holds.now in
    let new = c.hold_again.new.holds in
    on_ok c.hold_again.result (1 ≤ n → NoConflict t l Write (hold_in old) → hold_in new ≡ with_hold l t (Some (record { level = Write; count = n })) (hold_in old))
    ((clock : ℕ) (at : RunPoint) → HoldsStand at old → RunFacts at → act.request ≡ Resume l → act.reply ≡ Done → c.args.waiting ≡ (locks_of t at.entries).waiting
    → AnswersNext at t act.request act.reply act.woken → HoldsStand (applied clock act at) new)
    (λ held. λ clock at h facts is done waits answers.
    let locks = locks_of t at.entries in
    let right = subst (λ r. AnswersNext at t r Done act.woken) is (subst (λ r. AnswersNext at t act.request r act.woken) done answers) in
    let waiting = sym waits ∙ c.in-Some.is in
    let once = subst (λ n. 1 ≤ n) (sym c.count.ensures) (subst (λ waiting. IfSome waiting (λ (waiting : Waiting). 1 ≤ waiting.count)) waiting (facts.owed t)) in
    hold_changed clock at act l (Some (record { level = Write; count = n })) old new h (held once (resume_let_in at t l old h facts act.woken right))
    (ap (λ r. (locks_by r act.reply locks).holds) is ∙ (ap (λ r. (locks_by (Resume l) r locks).holds) done
    ∙ (ap (λ waiting. (resumed l waiting locks).holds) waiting
    ∙ ap (λ n. law.with_hold l (Some (record { level = Write; count = n })) locks.holds) (sym c.count.ensures))))) c.hold_again.ensures.held

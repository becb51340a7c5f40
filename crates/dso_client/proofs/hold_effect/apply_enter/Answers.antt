use Rattle.std.proofs.Common.{◌≡◌, ℕ, sym, ◌∙◌, ap, subst, Some}
use Rattle.dso_base.specs.declared.request.Reply.TheVariants.{Done}
use Rattle.dso_base.specs.declared.request.Request.TheVariants.{Enter}
use Rattle.dso_hold.specs.Holds.{entered, hold_in, with_hold}
use Rattle.dso_plain.specs.After as plain
use Rattle.dso_law.specs.Threads as law
use Rattle.dso_law.specs.Threads.{locks_by, locks_of}
use Rattle.dso_client.specs.LockEntries.{IsLetIn}
use Rattle.dso_client.specs.ActEffects.{HoldsStand, applied}
use Rattle.dso_client.specs.RunPoints.{RunPoint}
use Rattle.dso_client.specs.RunFacts.{RunFacts}
use Rattle.dso_client.specs.Turns.{AnswersNext}
use Rattle.dso_client.proofs.replies.Outcomes.{on_ok}
use Rattle.dso_client.proofs.applied.Entered.{entered_once, entry_let_in}
use Rattle.dso_client.proofs.applied.Holds.{hold_changed}
use Rattle.dso_client.proofs.hold_effect.apply_enter.Goals as goal

pub returns-clause-stands : goal.returns-clause-stands
returns-clause-stands c =
    let act = c.args.act in
    let t = act.thread in
    let l = c.args.lock in
    let level = c.args.level in
    let old = c.args.holds.now in
    let new = c.enter.new.holds in
    let held = hold_in old (l, t) in
    on_ok c.enter.result (IsLetIn t l level (hold_in old) → hold_in new ≡ with_hold l t (Some (entered level 1 held)) (hold_in old))
    ((clock : ℕ) (at : RunPoint) → HoldsStand at old → RunFacts at → act.request ≡ Enter l level → act.reply ≡ Done → AnswersNext at t act.request act.reply act.woken → HoldsStand (applied clock act at) new)
    (λ enters. λ clock at h facts is done answers.
    let locks = locks_of t at.entries in
    let right = subst (λ r. AnswersNext at t r Done act.woken) is (subst (λ r. AnswersNext at t act.request r act.woken) done answers) in
    hold_changed clock at act l (Some (entered level 1 held)) old new h (enters (entry_let_in at t l old h facts level act.woken right))
    (ap (λ r. (locks_by r act.reply locks).holds) is ∙ (ap (λ r. (locks_by (Enter l level) r locks).holds) done
    ∙ ap (λ hold. law.with_hold l hold locks.holds) (sym (entered_once level held ∙ ap (plain.entered level) (h t l)))))) c.enter.ensures.entered

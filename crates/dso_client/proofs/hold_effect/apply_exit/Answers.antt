use Rattle.std.proofs.Common.{sym, ◌∙◌, ap, subst}
use Rattle.dso_base.specs.declared.request.Request.TheVariants.{Exit}
use Rattle.dso_hold.specs.Holds.{hold_in, exited}
use Rattle.dso_plain.specs.After as plain
use Rattle.dso_law.specs.Threads as law
use Rattle.dso_law.specs.Threads.{locks_by, locks_of}
use Rattle.dso_client.proofs.facts.Counts.{AtLeastOnce}
use Rattle.dso_client.proofs.applied.Counts.{counts_with, count_exited}
use Rattle.dso_client.proofs.applied.Entered.{exited_once}
use Rattle.dso_client.proofs.applied.Holds.{hold_changed}
use Rattle.dso_client.proofs.hold_effect.apply_exit.Goals as goal

pub returns-clause-stands : goal.returns-clause-stands
returns-clause-stands c = λ clock at h facts is done.
    let act = c.args.act in
    let l = c.args.lock in
    let old = c.args.holds.now in
    let held = hold_in old (l, act.thread) in
    let locks = locks_of act.thread at.entries in
    hold_changed clock at act l (exited 1 held) old c.exit.new.self h c.exit.ensures.holds
    (ap (λ r. (locks_by r act.reply locks).holds) is ∙ (ap (λ r. (locks_by (Exit l) r locks).holds) done
    ∙ ap (λ hold. law.with_hold l hold locks.holds)
    (sym (exited_once held (subst AtLeastOnce (sym (h act.thread l)) (facts.counted act.thread l)) ∙ ap plain.exited (h act.thread l)))))

pub returns-clause-most : goal.returns-clause-most
returns-clause-most c = λ most h.
    let t = c.args.act.thread in
    let l = c.args.lock in
    let old = c.args.holds.now in
    counts_with most l t (exited 1 (hold_in old (l, t))) old c.exit.new.self c.exit.ensures.holds h (count_exited most 1 (hold_in old (l, t)) (h t l))

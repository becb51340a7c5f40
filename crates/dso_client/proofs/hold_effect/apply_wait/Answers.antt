use Rattle.std.proofs.Common.{◌∙◌, ap, None}
use Rattle.dso_base.specs.declared.request.Request.TheVariants.{Wait}
use Rattle.dso_hold.specs.Holds.{hold_in, with_hold, exited}
use Rattle.dso_law.specs.Threads.{locks_by, locks_of}
use Rattle.dso_client.proofs.applied.Counts.{counts_with, count_exited}
use Rattle.dso_client.proofs.applied.Holds.{none_left, hold_changed}
use Rattle.dso_client.proofs.hold_effect.apply_wait.Goals as goal

pub returns-clause-stands : goal.returns-clause-stands
returns-clause-stands c = λ clock at h is done.
    let act = c.args.act in
    let l = c.args.lock in
    let old = c.args.holds.now in
    let locks = locks_of act.thread at.entries in
    hold_changed clock at act l None old c.exit.new.self h
    (c.exit.ensures.holds ∙ ap (λ held. with_hold l act.thread held (hold_in old))
    (ap (λ n. exited n (hold_in old (l, act.thread))) c.count-count.ensures ∙ none_left (hold_in old (l, act.thread))))
    (ap (λ r. (locks_by r act.reply locks).holds) is ∙ ap (λ r. (locks_by (Wait l) r locks).holds) done)

pub returns-clause-most : goal.returns-clause-most
returns-clause-most c = λ most h.
    let t = c.args.act.thread in
    let l = c.args.lock in
    let old = c.args.holds.now in
    let n = c.count-count.result in
    counts_with most l t (exited n (hold_in old (l, t))) old c.exit.new.self c.exit.ensures.holds h (count_exited most n (hold_in old (l, t)) (h t l))

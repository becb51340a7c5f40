use Rattle.std.proofs.Common.{ap, ◌∙◌, [], ◌∷◌, ◌++◌}
use Rattle.dso_base.specs.declared.request.Reply.TheVariants.{Done}
use Rattle.dso_base.specs.declared.request.Request.TheVariants.{Wait, Timeout, Notify}
use Rattle.dso_law.specs.ClientWaiters.{client_list, list_by_act, without}
use Rattle.dso_client.proofs.applied.Lists.{list_applied}
use Rattle.dso_client.proofs.act_effect.done_lists.Goals as goal

pub returns-in_ok-add_waiter-in-Wait : goal.returns-in_ok-add_waiter-in-Wait
returns-in_ok-add_waiter-in-Wait c = λ clock at h done.
    let act = c.args.act in
    let l = c.in-Wait.lock in
    list_applied clock at act l (λ list. list ++ act.thread ∷ []) c.args.lists.now c.add_waiter.new.lists h c.in_ok-add_waiter-in-Wait.ensures
    (λ x. ap (λ r. list_by_act x act.thread r act.reply act.woken (client_list x at.entries)) c.in-Wait.is ∙ ap (λ r. list_by_act x act.thread (Wait l) r act.woken (client_list x at.entries)) done)

pub returns-in-Timeout : goal.returns-in-Timeout
returns-in-Timeout c = λ clock at h done.
    let act = c.args.act in
    let l = c.in-Timeout.lock in
    list_applied clock at act l (without act.thread) c.args.lists.now c.remove_waiter.new.lists h c.remove_waiter.ensures
    (λ x. ap (λ r. list_by_act x act.thread r act.reply act.woken (client_list x at.entries)) c.in-Timeout.is ∙ ap (λ r. list_by_act x act.thread (Timeout l) r act.woken (client_list x at.entries)) done)

pub returns-in-Some : goal.returns-in-Some
returns-in-Some c = λ clock at h done.
    let act = c.args.act in
    let l = c.in-Notify.lock in
    let u = c.in-Some.woken in
    list_applied clock at act l (without u) c.args.lists.now c.remove_waiter-in-Some.new.lists h c.remove_waiter-in-Some.ensures
    (λ x. ap (λ r. list_by_act x act.thread r act.reply act.woken (client_list x at.entries)) c.in-Notify.is
    ∙ (ap (λ r. list_by_act x act.thread (Notify l) r act.woken (client_list x at.entries)) done ∙ ap (λ w. list_by_act x act.thread (Notify l) Done w (client_list x at.entries)) c.in-Some.is))

use Rattle.std.proofs.Common.{◌∙◌, ap, ◌++◌}
use Rattle.dso_law.specs.ServerWaiters.{wakes_of}
use Rattle.dso_server.specs.Sending.{sent_of}
use Rattle.dso_server.specs.Waiters.{lists_in}
use Rattle.dso_server.proofs.answered.Records.{answered_record}
use Rattle.dso_store.specs.Changes.{messages_of}
use Rattle.dso_server.proofs.answers.commit.Goals as goal

pub returns-clause-answers : goal.returns-clause-answers
returns-clause-answers c = answered_record c.args.server.now c.apply.new.self c.end.new.threads c.wake_by_record.new.waiters c.args.client c.args.txn.now c.in_ok-others_holding.field-0.items c.wake_by_record.new.messages.items
    c.in_ok-apply.ensures.bodies c.in_ok-apply.ensures.holds c.in_ok-apply.ensures.last c.in_ok-end.ensures.known c.in_ok-end.ensures.last c.in_ok-others_holding.ensures c.in_ok-wake_by_record.ensures.lists
    (c.in_ok-wake_by_record.ensures.sends ∙ ap (λ before. before ++ wakes_of c.args.txn.now (lists_in c.args.server.now.waiters)) (c.in_ok-tell_changes.ensures ∙ ap (λ first. sent_of first ++ messages_of c.in_ok-others_holding.field-0.items) c.in_ok-messages.ensures))

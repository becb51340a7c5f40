use Rattle.std.proofs.Common.{◌∙◌, ap}
use Rattle.std.proofs.lemmas.Result.{IfOk-weaker}
use Rattle.dso_locks.specs.Locks.{messages_of}
use Rattle.dso_server.proofs.answered.Losses.{answered_loss, lost_inserted}
use Rattle.dso_server.proofs.answers.lost.Goals as goal

pub returns-clause-lost : goal.returns-clause-lost
returns-clause-lost c = IfOk-weaker c.tell_locks.result _ _ (λ messages told. answered_loss c.args.server.now c.insert.new.self c.lose.new.self c.lose-2.new.self c.drop_client.new.waiters c.args.client c.in_ok-told.told.items messages.items (lost_inserted c.args.server.now.lost c.insert.new.self c.args.client c.in_ok-insert.ensures.updates.0) c.lose.ensures.bodies c.lose.ensures.holds c.lose.ensures.last c.drop_client.ensures c.in_ok-told.ensures.told c.in_ok-told.ensures.locks c.lose-2.ensures.requested (told ∙ ap messages_of c.as_slice.ensures.value)) c.tell_locks.ensures

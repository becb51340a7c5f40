use Rattle.std.proofs.Common.{◌∙◌, ap}
use Rattle.std.proofs.lemmas.Result.{IfOk-weaker}
use Rattle.dso_locks.specs.Locks.{messages_of}
use Rattle.dso_server.proofs.answered.Locks.{answered_request}
use Rattle.dso_server.proofs.answers.request.Goals as goal

pub returns-clause-answers : goal.returns-clause-answers
returns-clause-answers c = IfOk-weaker c.tell_locks.result _ _ (λ messages told. answered_request c.args.server.now c.request.new.self c.args.client c.args.lock c.args.level c.in_ok-told.told.items messages.items c.in_ok-told.ensures.told c.in_ok-told.ensures.locks c.in_ok-told.ensures.requested (told ∙ ap messages_of c.as_slice.ensures.value)) c.tell_locks.ensures

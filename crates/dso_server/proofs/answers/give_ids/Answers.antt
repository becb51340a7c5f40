use Rattle.std.proofs.lemmas.Result.{IfOk-weaker}
use Rattle.dso_server.proofs.answered.Ids.{answered_ids}
use Rattle.dso_server.proofs.answers.give_ids.Goals as goal

pub returns-clause-answers : goal.returns-clause-answers
returns-clause-answers c = IfOk-weaker c.alone.result _ _ (λ messages alone. answered_ids c.args.server.now c.give.new.self c.args.client c.in_ok-first.first messages.items c.in_ok-first.ensures.first c.in_ok-first.ensures.given alone) c.alone.ensures

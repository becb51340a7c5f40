use Rattle.dso_server.proofs.answered.Objects.{answered_flush}
use Rattle.dso_server.proofs.answers.flush.Goals as goal

pub returns-clause-answers : goal.returns-clause-answers
returns-clause-answers c = answered_flush c.args.server.now c.unhold.new.self c.args.client c.args.object c.new.result.items c.new.ensures.items c.unhold.ensures.bodies c.unhold.ensures.holds c.unhold.ensures.last

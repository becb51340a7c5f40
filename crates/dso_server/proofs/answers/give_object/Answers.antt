use Rattle.std.specs.Option.{option_copied}
use Rattle.dso_server.proofs.answered.Objects.{answered_fault}
use Rattle.dso_server.proofs.answers.give_object.Goals as goal

pub returns-clause-answers : goal.returns-clause-answers
returns-clause-answers c = answered_fault c.args.server.now c.hold.new.self c.args.client c.args.object (option_copied c.object.result) c.in_ok-messages.messages.items c.object.ensures c.in_ok-messages.ensures c.in_ok-hold.ensures.bodies c.in_ok-hold.ensures.holds c.in_ok-hold.ensures.last

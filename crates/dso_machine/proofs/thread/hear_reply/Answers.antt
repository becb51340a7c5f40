use Rattle.dso_machine.proofs.standing.AfterEvents.{heard_followed}
use Rattle.dso_machine.proofs.thread.hear_reply.Goals as goal

pub returns : goal.returns
returns c = heard_followed c.args.code.now c.args.reply c.args.on c.args.core.now c.in_ok-step.step c.hear.new.frame c.follow.result c.follow.new.self c.in_ok-step.ensures.takes c.follow.ensures.now c.follow.ensures.tasks

use Rattle.dso_machine.specs.declared.continuation.OnValue.TheVariants as then
use Rattle.dso_machine.proofs.steps.Goes.{uses_followed}
use Rattle.dso_machine.proofs.machine.Core.turn.Goals as goal

pub returns-clause-keeps : goal.returns-clause-keeps
returns-clause-keeps c =
    uses_followed (then.While c.args.test c.args.body) c.args.value c.args.self.now c.in_ok-step.step c.follow.result c.follow.new.self
    c.in_ok-step.ensures.uses c.follow.ensures.now c.follow.ensures.tasks

use Rattle.dso_machine.specs.declared.continuation.Now.TheVariants as now
use Rattle.dso_machine.proofs.steps.Goes.{opens_goes}
use Rattle.dso_machine.proofs.machine.Core.begin_argument.Goals as goal

pub returns-clause-keeps : goal.returns-clause-keeps
returns-clause-keeps c =
    opens_goes (now.Arguments c.args.callees c.args.object c.args.before c.args.rest) c.args.self.now c.in_ok-step.step c.advance.result c.advance.new.self
    (λ code. c.in_ok-step.ensures.opens code c.args.self.now.frame) c.advance.ensures.keeps

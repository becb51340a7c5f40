use Rattle.dso_machine.proofs.steps.Goes.{used_at_once, fault_passes}
use Rattle.dso_machine.proofs.machine.Core.begin.Goals as goal

pub returns-in-Some-Ok-clause-keeps : goal.returns-in-Some-Ok-clause-keeps
returns-in-Some-Ok-clause-keeps c =
    used_at_once c.args.expr.now c.in-Some-Ok.value c.args.then c.args.self.now c.use_value.result c.use_value.new.self
    (rw c.get.ensures at (rw c.in-Some-Ok.field-0-is at c.in-Some-Ok.ensures.knows)) c.use_value.ensures.keeps

pub returns-in-Some-Err-clause-keeps : goal.returns-in-Some-Err-clause-keeps
returns-in-Some-Err-clause-keeps c =
    λ code. fault_passes code c.args.expr.now c.in-Some-Err.fault c.args.then c.args.self.now ((rw c.get.ensures at (rw c.in-Some-Err.field-0-is at c.in-Some-Err.ensures.knows)) code)

use Rattle.dso_machine.proofs.steps.Goes.{value_goes, fault_goes}
use Rattle.dso_machine.proofs.machine.Core.begin_expr.Goals as goal

pub returns-in-Some-Ok-clause-keeps : goal.returns-in-Some-Ok-clause-keeps
returns-in-Some-Ok-clause-keeps c =
    value_goes c.args.expr c.in-Some-Ok.value c.args.self.now c.close.result c.close.new.self
    (rw c.get.ensures at (rw c.in-Some-Ok.field-0-is at c.in-Some-Ok.ensures.knows)) c.close.ensures.keeps c.args.code.now

pub returns-in-Some-Err-clause-keeps : goal.returns-in-Some-Err-clause-keeps
returns-in-Some-Err-clause-keeps c =
    fault_goes c.args.expr c.in-Some-Err.fault c.args.self.now c.close-in-Some-Err.result c.close-in-Some-Err.new.self
    (rw c.get.ensures at (rw c.in-Some-Err.field-0-is at c.in-Some-Err.ensures.knows)) c.close-in-Some-Err.ensures.keeps c.args.code.now

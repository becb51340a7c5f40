use Rattle.dso_machine.proofs.forms.Seconds.{second_uses}
use Rattle.dso_machine.proofs.on_value.second.Goals as goal

pub returns-in_default-clause-uses : goal.returns-in_default-clause-uses
returns-in_default-clause-uses c = λ code frame. second_uses code frame c.args.op c.args.operand c.args.first c.evaluate.result c.in_default.not-And c.in_default.not-Or c.evaluate.ensures

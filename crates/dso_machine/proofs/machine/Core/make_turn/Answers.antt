use Rattle.dso_machine.proofs.steps.Goes.{turned_at_once, turned_to_fault}
use Rattle.dso_machine.proofs.machine.Core.make_turn.Goals as goal

pub returns-in-Some-Ok-clause-makes : goal.returns-in-Some-Ok-clause-makes
returns-in-Some-Ok-clause-makes c =
    turned_at_once c.args.test c.args.body c.in-Some-Ok.value c.args.self.now c.turn.result c.turn.new.self c.requires
    (rw c.get.ensures at (rw c.in-Some-Ok.field-0-is at c.in-Some-Ok.ensures.knows)) c.turn.ensures.keeps

pub returns-in-Some-Err-clause-makes : goal.returns-in-Some-Err-clause-makes
returns-in-Some-Err-clause-makes c =
    λ code. turned_to_fault code c.args.test c.args.body c.in-Some-Err.fault c.args.self.now c.requires ((rw c.get.ensures at (rw c.in-Some-Err.field-0-is at c.in-Some-Err.ensures.knows)) code)

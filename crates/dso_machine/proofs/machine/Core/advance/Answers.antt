use Rattle.std.proofs.Common.{refl}
use Rattle.dso_machine.proofs.steps.Goes.{put_on, put_weighs}
use Rattle.dso_machine.proofs.machine.Core.advance.Goals as goal

pub returns-in_ok-put_before-in_default : goal.returns-in_ok-put_before-in_default
returns-in_ok-put_before-in_default c = record {
  keeps = put_on c.args.step.now c.args.step.then c.args.self.now c.put_before.new.tasks c.in_ok-put_before-in_default.ensures;
  lighter = put_weighs c.args.step.now c.args.step.then c.args.self.now c.put_before.new.tasks c.in_ok-put_before-in_default.ensures;
  calm = refl;
}

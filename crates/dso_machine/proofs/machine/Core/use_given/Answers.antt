use Rattle.std.proofs.Common.{arith}
use Rattle.std.proofs.lemmas.Result.{IfOk-weaker}
use Rattle.dso_machine.proofs.steps.Goes.{next_goes, uses_goes}
use Rattle.dso_machine.proofs.machine.Core.use_given.Goals as goal

pub returns-in-Next-clause-keeps : goal.returns-in-Next-clause-keeps
returns-in-Next-clause-keeps c =
    rw c.in-Next.is (next_goes c.args.value c.in-Next.rest c.args.self.now c.begin_next.result c.begin_next.new.self c.begin_next.ensures.keeps)

pub returns-in_ok-step-in_default : goal.returns-in_ok-step-in_default
returns-in_ok-step-in_default c = record {
  keeps = uses_goes c.args.then c.args.value c.args.self.now c.in_ok-step-in_default.step c.use_value.new.frame c.advance.result c.advance.new.self
      c.in_ok-step-in_default.ensures.uses c.advance.ensures.keeps;
  lighter = IfOk-weaker c.advance.result _ _ (λ now light. omega (arith, light, c.in_ok-step-in_default.ensures.lighter)) c.advance.ensures.lighter;
  calm = c.advance.ensures.calm;
}

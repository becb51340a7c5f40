use Rattle.std.proofs.Common.{arith}
use Rattle.std.proofs.lemmas.Result.{IfOk-weaker}
use Rattle.dso_machine.specs.declared.continuation.Move.TheVariants as move
use Rattle.dso_machine.specs.declared.continuation.Now.TheVariants as now
use Rattle.dso_machine.specs.declared.continuation.OnValue.TheVariants as then
use Rattle.dso_machine.specs.declared.tree.Stmt.TheVariants as s
use Rattle.dso_machine.specs.Continuation.{alone, used}
use Rattle.dso_machine.proofs.forms.Beginnings.{begin_Assign, begin_Eval, begin_If, begin_While, begin_Print}
use Rattle.dso_machine.proofs.steps.Goes.{executes_goes}
use Rattle.dso_machine.proofs.steps.Steps.{executes_keep}
use Rattle.dso_machine.proofs.machine.Core.begin_statement.Goals as goal

pub returns-in-Assign-clause-keeps : goal.returns-in-Assign-clause-keeps
returns-in-Assign-clause-keeps c =
    executes_goes c.args.statement.now c.args.self.now (used (now.Evaluate c.in-Assign.value) (then.Assign c.in-Assign.variable)) c.begin.result
    c.begin.new.self (λ code. rw c.in-Assign.is (begin_Assign code c.args.self.now.frame c.in-Assign.variable c.in-Assign.value)) c.begin.ensures.keeps

pub returns-in_ok-again-in-Eval-clause-keeps : goal.returns-in_ok-again-in-Eval-clause-keeps
returns-in_ok-again-in-Eval-clause-keeps c = λ code.
    let e = c.in-Eval.expr in
    rw (c.in-Eval.is, c.in_ok-again-in-Eval.ensures)
    (executes_keep code (s.Eval e) c.args.self.now (alone (now.Evaluate e)) (begin_Eval code c.args.self.now.frame e))

pub returns-in_ok-again-in-If-2-clause-keeps : goal.returns-in_ok-again-in-If-2-clause-keeps
returns-in_ok-again-in-If-2-clause-keeps c =
    executes_goes c.args.statement.now c.args.self.now
    (used (now.Evaluate c.in-If.test) (then.If c.in_ok-again-in-If.field-0 c.in_ok-again-in-If-2.field-0)) c.begin-in-If.result c.begin-in-If.new.self
    (λ code. rw (c.in-If.is, c.in_ok-again-in-If.ensures, c.in_ok-again-in-If-2.ensures)
    (begin_If code c.args.self.now.frame c.in-If.test c.in-If.all c.in-If.others)) c.begin-in-If.ensures.keeps

pub returns-in_ok-again-in-While-2-clause-keeps : goal.returns-in_ok-again-in-While-2-clause-keeps
returns-in_ok-again-in-While-2-clause-keeps c = λ code.
    let test = c.in-While.test in
    let body = c.in-While.body in
    rw (c.in-While.is, c.in_ok-again-in-While.ensures, c.in_ok-again-in-While-2.ensures)
    (executes_keep code (s.While test body) c.args.self.now (alone (now.Pace (move.Turn test body))) (begin_While code c.args.self.now.frame test body))

pub returns-in-Print-clause-keeps : goal.returns-in-Print-clause-keeps
returns-in-Print-clause-keeps c =
    executes_goes c.args.statement.now c.args.self.now (used (now.Evaluate c.in-Print.value) then.Print) c.begin-in-Print.result
    c.begin-in-Print.new.self (λ code. rw c.in-Print.is (begin_Print code c.args.self.now.frame c.in-Print.value)) c.begin-in-Print.ensures.keeps

pub returns-in_ok-step-in_default : goal.returns-in_ok-step-in_default
returns-in_ok-step-in_default c = record {
  keeps = executes_goes c.args.statement.now c.args.self.now c.in_ok-step-in_default.step c.advance.result c.advance.new.self
      (λ code. c.in_ok-step-in_default.ensures.executes code c.args.self.now.frame) c.advance.ensures.keeps;
  lighter = IfOk-weaker c.advance.result _ _ (λ then light. omega (arith, light, c.in_ok-step-in_default.ensures.lighter)) c.advance.ensures.lighter;
  calm = c.advance.ensures.calm;
}

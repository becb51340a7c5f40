use Rattle.dso_lint.proofs.calling.CallerSteps.{adds_none, adds_one}
use Rattle.dso_lint.proofs.callers.add_caller.Goals as goal

pub returns-then-not-calls : goal.returns-then-not-calls
returns-then-not-calls c = adds_none c.args.number c.args.calls c.args.called.now c.if-not-calls.true

pub returns : goal.returns
returns c = adds_one c.args.number c.args.calls c.args.called.now _ c.if-not-calls.false c.in_ok-push.ensures.items

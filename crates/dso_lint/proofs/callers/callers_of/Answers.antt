use Rattle.std.proofs.Common.{◌+◌, ◌<◌, ◌≤◌, arith, length, sym, subst}
use Rattle.dso_lint.specs.Lists.{Lists}
use Rattle.dso_lint.specs.Trees.{Uses}
use Rattle.dso_lint.proofs.calling.CallerSteps.{fewer_called, more_called, none_called}
use Rattle.dso_lint.proofs.standing.ListedSteps.{method_listed}
use Rattle.dso_lint.proofs.callers.callers_of.Goals as goal

pub loop-number-init : goal.loop-number-init
loop-number-init c code listed same = none_called code (c.args.methods + 5) c.in_ok-callers.callers.items c.in_ok-callers.ensures

pub loop-number-preserved : goal.loop-number-preserved
loop-number-preserved c code listed same =
    let number = c.loop-number.number in
    let low : number < length code.methods = omega (arith, c.loop-number-test.true, same) in
    let one = c.index-bodies-number.result in
    let there = method_listed code c.args.bodies.now listed number low one in
    let lists : Lists (Uses there.body.statements) c.as_slice.result.now = subst (Lists (Uses there.body.statements)) (sym c.as_slice.ensures.value) there.listed.expressions in
    more_called code (c.args.methods + 5) number there.body c.loop-number.callers.items c.add_body.new.callers.items there.at (c.in_ok-add_body.ensures there.body.statements lists) (c.loop-number.invariant code listed same)

pub returns : goal.returns
returns c code listed same =
    let all : c.args.methods ≤ c.loop-number.number = omega (arith, c.loop-number-test.false) in
    fewer_called code (c.args.methods + 5) c.loop-number.number c.args.methods c.loop-number.callers.items all (c.loop-number.invariant code listed same)

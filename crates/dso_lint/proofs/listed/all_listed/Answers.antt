use Rattle.std.proofs.Common.{◌+◌, [], ◌++◌, map, take, sym, subst}
use Rattle.dso_machine.specs.declared.code.Method.{Method}
use Rattle.dso_machine.specs.declared.code.ThreadBody.{ThreadBody}
use Rattle.dso_lint.specs.Listed.{AreListed, IsListed, routine_of, routine_of_thread}
use Rattle.dso_lint.proofs.standing.ListedSteps.{next_listed}
use Rattle.dso_lint.proofs.listed.all_listed.Goals as goal

pub loop-method-preserved : goal.loop-method-preserved
loop-method-preserved c =
    let methods = c.as_slice-methods.result.now in
    let i = c.loop-method.method-index in
    let m = c.method-item.result in
    let one = c.in_ok-one.one in
    subst (AreListed (map routine_of (take (i + 1) methods))) (sym c.in_ok-push.ensures.items)
    (next_listed routine_of [] methods i m c.loop-method-test.true c.loop-method.all.items one c.loop-method.invariant (subst (λ (x : Method). IsListed one (routine_of x)) c.method-item.is c.in_ok-one.ensures))

pub loop-body-preserved : goal.loop-body-preserved
loop-body-preserved c =
    let bodies = c.as_slice-bodies.result.now in
    let before = map routine_of c.args.code.now.methods in
    let i = c.loop-body.body-index in
    let b = c.body-item.result in
    let one = c.in_ok-one-2.one in
    subst (AreListed (before ++ map routine_of_thread (take (i + 1) bodies))) (sym c.in_ok-push-2.ensures.items)
    (next_listed routine_of_thread before bodies i b c.loop-body-test.true c.loop-body.all.items one c.loop-body.invariant (subst (λ (x : ThreadBody). IsListed one (routine_of_thread x)) c.body-item.is c.in_ok-one-2.ensures))

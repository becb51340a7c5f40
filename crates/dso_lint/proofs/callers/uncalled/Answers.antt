use Rattle.std.proofs.Common.{◌≡◌, ◌+◌, arith, sym, subst}
use Rattle.dso_lint.specs.Callers.{AreUncalled}
use Rattle.dso_lint.proofs.calling.CallerSteps.{uncalled_more, uncalled_none}
use Rattle.dso_lint.proofs.callers.uncalled.Goals as goal

pub loop-init : goal.loop-init
loop-init c = subst (AreUncalled 0) (sym c.new-callers.ensures.items) uncalled_none

pub loop-preserved : goal.loop-preserved
loop-preserved c = subst (AreUncalled (c.loop.counter + 1)) (sym c.in_ok-push.ensures.items) (uncalled_more c.loop.counter c.loop.callers.items c.no_caller.result c.no_caller.ensures c.loop.invariant)

pub returns : goal.returns
returns c =
    let many : c.loop.counter ≡ c.args.size = omega (arith, c.loop-test.false, c.loop.auto.counter-end) in
    subst (λ n. AreUncalled n c.loop.callers.items) many c.loop.invariant

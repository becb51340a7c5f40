use Rattle.std.proofs.Common.{◌<◌, ◌≤◌, length, refl, subst}
use Rattle.dso_class.proofs.walks.Knowing.{popped, all_popped}
use Rattle.dso_class.proofs.statement.forget.Goals as goal

pub loop-init : goal.loop-init
loop-init c =
    (refl, refl, refl)

pub loop-preserved : goal.loop-preserved
loop-preserved c =
    let whole = c.args.scope.now.known in
    let below : c.loop.counter < length whole = subst (λ end. c.loop.counter < end) c.len-end.ensures c.loop-test.true in
    let less = popped c.args.height c.loop.counter whole c.loop.scope.known c.pop.new.self c.pop.result c.pop.ensures.taken c.pop.ensures.none c.loop.invariant.0 c.loop.invariant.1 below in
    (less.0, less.1, c.loop.invariant.2)

pub returns-clause-known : goal.returns-clause-known
returns-clause-known c =
    let whole = c.args.scope.now.known in
    let past : length whole ≤ c.loop.counter = subst (λ end. end ≤ c.loop.counter) c.len-end.ensures c.loop-test.false in
    all_popped c.args.height c.loop.counter whole c.loop.scope.known c.loop.invariant.0 c.loop.invariant.1 past

pub returns-clause-variables : goal.returns-clause-variables
returns-clause-variables c =
    c.loop.invariant.2

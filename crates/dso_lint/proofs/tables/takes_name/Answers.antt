use Rattle.std.proofs.Common.{◌≤◌, ◌<◌, arith, length, sym, subst}
use Rattle.dso_lint.specs.Upgrades.{TakesForWrite}
use Rattle.dso_lint.proofs.standing.ListedSteps.{method_listed}
use Rattle.dso_lint.proofs.upgrading.Writers.{takes_named, no_name_behind}
use Rattle.dso_lint.proofs.tables.takes_name.Goals as goal

pub returns-then-number-methods : goal.returns-then-number-methods
returns-then-number-methods c code listed same =
    let high : length code.methods ≤ c.args.number = omega (arith, c.if-number-methods.true, same) in
    (λ q. absurd (cc q), λ takes. absurd (no_name_behind code c.args.lock c.args.number high takes))

pub returns : goal.returns
returns c code listed same =
    let number = c.args.number in
    let lock = c.args.lock in
    let low : number < length code.methods = omega (arith, c.if-number-methods.false, same) in
    let one = c.index-bodies-number.result in
    let there = method_listed code c.args.bodies.now listed number low one in
    let named = there.listed.named in (
      λ q. (there.body, there.at, subst (TakesForWrite lock) named (c.takes_for_write.ensures.0 q)),
      λ takes. c.takes_for_write.ensures.1 (subst (TakesForWrite lock) (sym named) (takes_named code lock number there.body there.at takes)),
    )

use Rattle.std.proofs.Common.{◌≡◌, ◌+◌, arith, sym, subst}
use Rattle.std.proofs.lemmas.Grind.{common_steps}
use Rattle.dso_lint.specs.CleanRows.{AreBelow}
use Rattle.dso_lint.proofs.cleanness.Looks.{below_none, below_more}
use Rattle.dso_lint.proofs.rows.numbers_below.Goals as goal

pub loop-number-init : goal.loop-number-init
loop-number-init c = subst (AreBelow 0) (sym c.new-numbers.ensures.items) below_none

pub loop-number-preserved : goal.loop-number-preserved
loop-number-preserved c =
    let k = c.loop-number.number in
    subst (AreBelow (k + 1)) (sym c.in_ok-push.ensures.items) (below_more k c.loop-number.numbers.items c.loop-number.invariant)

pub returns : goal.returns
returns c =
    let done : c.loop-number.number ≡ c.args.size = grind (arith, common_steps) in
    subst (λ size. AreBelow size c.loop-number.numbers.items) done c.loop-number.invariant

use Rattle.std.proofs.Common.{inl, inr, refl, sym, subst, ◌∙◌}
use Rattle.dso_machine.specs.declared.tree.Expr.TheVariants as x
use Rattle.dso_lint.specs.declared.holds.Variable.TheVariants.{This}
use Rattle.dso_lint.specs.Access.{IsQuiet}
use Rattle.dso_lint.specs.Clean.{IsClean}
use Rattle.dso_lint.specs.Lists.{Lists}
use Rattle.dso_lint.specs.Rows.{chosen_by}
use Rattle.dso_lint.specs.Trees.{StandsIn, Uses}
use Rattle.dso_lint.proofs.guarding.Holding.{good, neither_good, this_stays}
use Rattle.dso_lint.proofs.guarding.Under.{this_clean}
use Rattle.dso_lint.proofs.access.own_hold.Goals as goal

pub returns-then-row : goal.returns-then-row
returns-then-row c routine listed grade =
    let chosen = chosen_by c.args.row.now in
    good c.args.shape.now chosen (record { lock = x.This; grade = grade; block = routine.statements }) This refl (this_stays routine.statements) (inl (this_clean chosen ∙ c.if-row.true))

pub returns-then-is_quiet : goal.returns-then-is_quiet
returns-then-is_quiet c routine listed grade =
    let chosen = chosen_by c.args.row.now in
    let stands : Lists (λ a. StandsIn a routine.statements) c.as_slice-statements.result.now = subst (Lists (λ a. StandsIn a routine.statements)) (sym c.as_slice-statements.ensures.value) listed.statements in
    let uses : Lists (Uses routine.statements) c.as_slice-expressions.result.now = subst (Lists (Uses routine.statements)) (sym c.as_slice-expressions.ensures.value) listed.expressions in
    let quiet : IsQuiet c.args.shape.now routine.statements = (c.is_quiet.ensures routine.statements stands uses).0 c.if-is_quiet.true in
    good c.args.shape.now chosen (record { lock = x.This; grade = grade; block = routine.statements }) This refl (this_stays routine.statements) (inr quiet)

pub returns : goal.returns
returns c routine listed grade =
    let chosen = chosen_by c.args.row.now in
    let stands : Lists (λ a. StandsIn a routine.statements) c.as_slice-statements.result.now = subst (Lists (λ a. StandsIn a routine.statements)) (sym c.as_slice-statements.ensures.value) listed.statements in
    let uses : Lists (Uses routine.statements) c.as_slice-expressions.result.now = subst (Lists (Uses routine.statements)) (sym c.as_slice-expressions.ensures.value) listed.expressions in
    let unclean : IsClean chosen x.This → ⊥ = λ clean. cc (sym clean ∙ this_clean chosen ∙ c.if-row.false) in
    let loud : IsQuiet c.args.shape.now routine.statements → ⊥ = λ quiet. cc (sym ((c.is_quiet.ensures routine.statements stands uses).1 quiet) ∙ c.if-is_quiet.false) in
    neither_good c.args.shape.now chosen (record { lock = x.This; grade = grade; block = routine.statements }) unclean loud

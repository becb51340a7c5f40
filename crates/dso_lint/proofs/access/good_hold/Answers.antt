use Rattle.std.proofs.Common.{inl, inr, sym, subst, ◌∙◌}
use Rattle.dso_lint.specs.Access.{IsQuiet}
use Rattle.dso_lint.specs.Clean.{IsClean}
use Rattle.dso_lint.specs.Holds.{IsAssigned}
use Rattle.dso_lint.specs.Lists.{Lists}
use Rattle.dso_lint.specs.Rows.{chosen_by}
use Rattle.dso_lint.specs.Trees.{StandsIn, Uses}
use Rattle.dso_lint.proofs.guarding.Holding.{assigned_not_good, good, neither_good}
use Rattle.dso_lint.proofs.access.good_hold.Goals as goal

pub returns-then-is_assigned : goal.returns-then-is_assigned
returns-then-is_assigned c grade =
    let block = c.args.block.now in
    let lists : Lists (λ a. StandsIn a block) c.as_slice-statements.result.now = subst (Lists (λ a. StandsIn a block)) (sym c.as_slice-statements.ensures.value) c.in_ok-list.ensures in
    assigned_not_good c.args.scene.now.shape.now (chosen_by c.args.scene.now.row.now) (record { lock = c.args.lock.now; grade = grade; block = block }) c.in-Some.variable c.in-Some.ensures ((c.is_assigned.ensures block lists).0 c.if-is_assigned.true)

pub returns-then-is_clean : goal.returns-then-is_clean
returns-then-is_clean c grade =
    let block = c.args.block.now in
    let lists : Lists (λ a. StandsIn a block) c.as_slice-statements.result.now = subst (Lists (λ a. StandsIn a block)) (sym c.as_slice-statements.ensures.value) c.in_ok-list.ensures in
    let stays : IsAssigned block c.in-Some.variable → ⊥ = λ assigned. cc (sym ((c.is_assigned.ensures block lists).1 assigned) ∙ c.if-is_assigned.false) in
    good c.args.scene.now.shape.now (chosen_by c.args.scene.now.row.now) (record { lock = c.args.lock.now; grade = grade; block = block }) c.in-Some.variable c.in-Some.ensures stays (inl (sym c.is_clean.ensures ∙ c.if-is_clean.true))

pub returns-then-is_quiet : goal.returns-then-is_quiet
returns-then-is_quiet c grade =
    let block = c.args.block.now in
    let lists : Lists (λ a. StandsIn a block) c.as_slice-statements.result.now = subst (Lists (λ a. StandsIn a block)) (sym c.as_slice-statements.ensures.value) c.in_ok-list.ensures in
    let uses : Lists (Uses block) c.as_slice.result.now = subst (Lists (Uses block)) (sym c.as_slice.ensures.value) (c.in_ok-expressions.ensures block lists) in
    let stays : IsAssigned block c.in-Some.variable → ⊥ = λ assigned. cc (sym ((c.is_assigned.ensures block lists).1 assigned) ∙ c.if-is_assigned.false) in
    good c.args.scene.now.shape.now (chosen_by c.args.scene.now.row.now) (record { lock = c.args.lock.now; grade = grade; block = block }) c.in-Some.variable c.in-Some.ensures stays (inr ((c.is_quiet.ensures block lists uses).0 c.if-is_quiet.true))

pub returns : goal.returns
returns c grade =
    let block = c.args.block.now in
    let lists : Lists (λ a. StandsIn a block) c.as_slice-statements.result.now = subst (Lists (λ a. StandsIn a block)) (sym c.as_slice-statements.ensures.value) c.in_ok-list.ensures in
    let uses : Lists (Uses block) c.as_slice.result.now = subst (Lists (Uses block)) (sym c.as_slice.ensures.value) (c.in_ok-expressions.ensures block lists) in
    let unclean : IsClean (chosen_by c.args.scene.now.row.now) c.args.lock.now → ⊥ = λ clean. cc (sym clean ∙ sym c.is_clean.ensures ∙ c.if-is_clean.false) in
    let loud : IsQuiet c.args.scene.now.shape.now block → ⊥ = λ quiet. cc (sym ((c.is_quiet.ensures block lists uses).1 quiet) ∙ c.if-is_quiet.false) in
    neither_good c.args.scene.now.shape.now (chosen_by c.args.scene.now.row.now) (record { lock = c.args.lock.now; grade = grade; block = block }) unclean loud

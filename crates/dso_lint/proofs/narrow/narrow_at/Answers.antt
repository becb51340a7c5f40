use Rattle.std.proofs.Common.{sym, subst, ap, ◌∙◌}
use Rattle.dso_machine.specs.declared.tree.Stmt.TheVariants as s
use Rattle.dso_lint.specs.Narrowing.{NarrowsAt}
use Rattle.dso_lint.proofs.narrow.narrow_at.Goals as goal

pub returns-in-Assign-clause-right : goal.returns-in-Assign-clause-right
returns-in-Assign-clause-right c =
    subst (λ a. NarrowsAt a c.args.row.now c.narrow_assigned.new.row c.narrow_assigned.result) (ap (s.Assign c.in-Assign.number) c.get.ensures ∙ sym c.in-Assign.is) c.narrow_assigned.ensures.right

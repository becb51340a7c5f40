use Rattle.std.proofs.Common.{refl, sym, ◌∙◌}
use Rattle.dso_machine.specs.declared.tree.Stmt.TheVariants as s
use Rattle.dso_lint.proofs.cleanness.RowSteps.{narrows_assigned}
use Rattle.dso_lint.proofs.narrow.narrow_assigned.Goals as goal

pub returns-clause-right : goal.returns-clause-right
returns-clause-right c =
    narrows_assigned (s.Assign c.args.number c.args.value.now) c.args.number c.args.value.now c.args.row.now c.spoil.new.row c.spoil.result refl (sym c.is_clean.ensures ∙ c.if-is_clean.false) c.spoil.ensures

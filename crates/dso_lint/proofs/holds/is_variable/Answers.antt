use Rattle.std.proofs.Common.{refl, sym, subst}
use Rattle.dso_lint.specs.Access.{IsVariable, variable, this}
use Rattle.dso_lint.proofs.holds.is_variable.Goals as goal

pub returns-in-Var : goal.returns-in-Var
returns-in-Var c = (λ t. subst IsVariable (sym c.in-Var.is) (variable c.in-Var.field-0), λ v. refl)

pub returns-in-This : goal.returns-in-This
returns-in-This c = (λ t. subst IsVariable (sym c.in-This.is) this, λ v. refl)

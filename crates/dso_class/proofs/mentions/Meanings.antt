-- What an expression means in numbers, by its form.
use Rattle.std.proofs.Common.{◌≡◌, sym, subst}
use Rattle.dso_machine.specs.declared.tree.Expr.{Expr}
use Rattle.dso_syntax.specs.declared.tree.ExprTree.{ExprTree, out-ExprTree}
use Rattle.dso_syntax.specs.declared.tree.ExprForm.{ExprForm}
use Rattle.dso_syntax.specs.Grammar as grammar
use Rattle.dso_class.specs.Numbers.{Numbers, MeansExpr}
use Rattle.dso_class.proofs.mentions.OfExpressions.{tree_is}

-- what means a tree of this line and form means the tree
pub of_form : (n : Numbers) (tree : ExprTree) (form : ExprForm) (given : Expr) → (out-ExprTree tree).form ≡ form → MeansExpr n (grammar.expression (out-ExprTree tree).line form) given → MeansExpr n tree given
of_form n tree form given is = subst (λ same. MeansExpr n same given) (sym (tree_is tree form is))

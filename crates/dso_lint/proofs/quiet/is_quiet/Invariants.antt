use Rattle.std.proofs.Common.{◌<◌, ℕ, get_or}
use Rattle.std.specs.Borrow.{Bor}
use Rattle.dso_machine.specs.declared.tree.Expr.{Expr}
use Rattle.dso_machine.specs.declared.tree.Stmt.{Stmt}
use Rattle.dso_lint.specs.Quiet.{IsCall, Publishes}
use Rattle.dso_lint.proofs.quiet.is_quiet.Given as goal

abbrev pub invariant-loop-e : goal.invariant-loop-e
invariant-loop-e l = (k : ℕ) (d : Bor Expr) → k < l.e-index → IsCall (get_or l.expressions k d).now → ⊥

abbrev pub invariant-loop-a : goal.invariant-loop-a
invariant-loop-a l = (k : ℕ) (d : Bor Stmt) → k < l.a-index → Publishes l.fn.shape (get_or l.statements k d).now → ⊥

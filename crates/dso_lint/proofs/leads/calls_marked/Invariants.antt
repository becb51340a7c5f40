use Rattle.std.proofs.Common.{◌<◌, ℕ, get_or}
use Rattle.std.specs.Borrow.{Bor}
use Rattle.dso_machine.specs.declared.tree.Expr.{Expr}
use Rattle.dso_lint.specs.Leads.{IsMarkedCall}
use Rattle.dso_lint.proofs.leads.calls_marked.Given as goal

abbrev pub invariant-loop-e : goal.invariant-loop-e
invariant-loop-e l = (k : ℕ) (d : Bor Expr) → k < l.e-index → IsMarkedCall l.marked (get_or l.expressions k d).now → ⊥

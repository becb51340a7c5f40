use Rattle.std.proofs.Common.{◌<◌, ℕ, get_or}
use Rattle.std.specs.Borrow.{Bor}
use Rattle.dso_machine.specs.declared.tree.Stmt.{Stmt}
use Rattle.dso_lint.specs.Holds.{Assigns}
use Rattle.dso_lint.proofs.holds.is_assigned.Given as goal

abbrev pub invariant-loop-a : goal.invariant-loop-a
invariant-loop-a l = (k : ℕ) (d : Bor Stmt) → k < l.a-index → Assigns l.variable (get_or l.statements k d).now → ⊥

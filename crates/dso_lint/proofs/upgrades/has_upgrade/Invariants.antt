use Rattle.std.proofs.Common.{◌<◌, ℕ, get_or}
use Rattle.std.specs.Borrow.{Bor}
use Rattle.dso_machine.specs.declared.code.Code.{Code}
use Rattle.dso_machine.specs.declared.tree.Stmt.{Stmt}
use Rattle.dso_lint.specs.Tables.{AreMonitors}
use Rattle.dso_lint.specs.Upgrading.{UpgradesAt}
use Rattle.dso_lint.proofs.upgrades.has_upgrade.Given as goal

abbrev pub invariant-loop-a : goal.invariant-loop-a
invariant-loop-a l = (code : Code) → AreMonitors code l.monitors → (k : ℕ) (d : Bor Stmt) → k < l.a-index → UpgradesAt code (get_or l.statements k d).now → ⊥

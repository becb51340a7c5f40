use Rattle.std.proofs.Common.{◌≡◌, length}
use Rattle.dso_machine.specs.declared.code.Code.{Code}
use Rattle.dso_lint.specs.Listed.{AreListed, routines}
use Rattle.dso_lint.specs.Tables.{BeginsBelow}
use Rattle.dso_lint.specs.Upgrades.{IsWriter}
use Rattle.dso_lint.proofs.tables.writers.Given as goal

abbrev pub invariant-loop-number : goal.invariant-loop-number
invariant-loop-number l = (code : Code) → AreListed (routines code) l.bodies → l.methods ≡ length code.methods → BeginsBelow (IsWriter code) l.size l.number l.marks

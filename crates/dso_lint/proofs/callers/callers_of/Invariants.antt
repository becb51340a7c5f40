use Rattle.std.proofs.Common.{◌≡◌, ◌+◌, length}
use Rattle.dso_machine.specs.declared.code.Code.{Code}
use Rattle.dso_lint.specs.Callers.{AreCallers}
use Rattle.dso_lint.specs.Listed.{AreListed, routines}
use Rattle.dso_lint.proofs.callers.callers_of.Given as goal

abbrev pub invariant-loop-number : goal.invariant-loop-number
invariant-loop-number l = (code : Code) → AreListed (routines code) l.bodies → l.methods ≡ length code.methods → AreCallers code (l.methods + 5) l.number l.callers.items

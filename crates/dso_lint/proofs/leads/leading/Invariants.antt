use Rattle.std.proofs.Common.{◌≤◌, length}
use Rattle.dso_machine.specs.declared.code.Code.{Code}
use Rattle.dso_lint.specs.Callers.{AreCallers}
use Rattle.dso_lint.specs.Leads.{LeadsSoFar, Within}
use Rattle.dso_lint.specs.Marked.{AreTidy}
use Rattle.dso_lint.proofs.leads.leading.Given as goal

abbrev pub invariant-loop-next : goal.invariant-loop-next
invariant-loop-next l = (code : Code) → AreCallers code (length l.fn.begun.marked.items) (length code.methods) l.callers → length code.methods ≤ length l.fn.begun.marked.items → AreTidy l.fn.begun
    → LeadsSoFar code (Within l.fn.begun.marked.items) (length l.fn.begun.marked.items) l.next l.marks

use Rattle.std.proofs.Common.{◌≡◌, ◌+◌, false, cond, List, length}
use Rattle.dso_machine.specs.declared.tree.Stmt.{Stmt}
use Rattle.dso_lint.specs.Lists.{Lists}
use Rattle.dso_lint.specs.Narrowing.{IsForced, clean_count}
use Rattle.dso_lint.specs.Rows.{Covers, IsBelow, KeepsAssigned, chosen_by}
use Rattle.dso_lint.specs.Trees.{StandsIn}
use Rattle.dso_lint.proofs.narrow.settle.Given as goal

-- what the row has lost so far was forced, and once nothing was lost it keeps the rule
abbrev pub invariant-loop-changed : goal.invariant-loop-changed
invariant-loop-changed l = (l.row.this ≡ l.initial.row.this) × (length l.row.variables.items ≡ length l.initial.row.variables.items)
    × IsBelow (chosen_by l.row) (chosen_by l.initial.row)
    × ((block : List Stmt) → Lists (λ a. StandsIn a block) l.statements → Covers block l.initial.row
    → IsForced block l.initial.row l.row × (l.changed ≡ false → KeepsAssigned block (chosen_by l.row)))

abbrev pub decreases-loop-changed : goal.decreases-loop-changed
decreases-loop-changed l = clean_count l.row + cond l.changed 1 0

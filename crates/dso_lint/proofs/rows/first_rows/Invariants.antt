use Rattle.std.proofs.Common.{◌≡◌, List, length}
use Rattle.dso_lint.specs.Listed.{AreListed}
use Rattle.dso_lint.specs.Routines.{Routine}
use Rattle.dso_lint.proofs.cleanness.FirstRows.{RowsSoFar}
use Rattle.dso_lint.proofs.rows.first_rows.Given as goal

abbrev pub invariant-loop-number : goal.invariant-loop-number
invariant-loop-number l = (length l.rows.items ≡ l.number) × ((all : List Routine) → AreListed all l.bodies → RowsSoFar all l.methods l.number l.rows.items)

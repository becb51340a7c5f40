use Rattle.dso_lint.proofs.cleanness.FirstRows.{FirstSoFar}
use Rattle.dso_lint.proofs.rows.first_row.Given as goal

abbrev pub invariant-loop-a : goal.invariant-loop-a
invariant-loop-a l = FirstSoFar l.statements l.fn.body.params l.a-index l.variables.items

use Rattle.dso_lint.proofs.cleanness.EachRow.{StripsSoFar}
use Rattle.dso_lint.proofs.rows.strip.Given as goal

abbrev pub invariant-loop-number : goal.invariant-loop-number
invariant-loop-number l = StripsSoFar l.marks.marked.items l.number l.initial.rows.items l.rows.items l.initial.waiting.items l.waiting.items

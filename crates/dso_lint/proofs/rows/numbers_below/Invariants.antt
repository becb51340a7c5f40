use Rattle.dso_lint.specs.CleanRows.{AreBelow}
use Rattle.dso_lint.proofs.rows.numbers_below.Given as goal

abbrev pub invariant-loop-number : goal.invariant-loop-number
invariant-loop-number l = AreBelow l.number l.numbers.items

use Rattle.std.proofs.Common.{◌+◌, length}
use Rattle.dso_lint.specs.CleanRows.{this_count}
use Rattle.dso_lint.proofs.cleanness.Looks.{Looking}
use Rattle.dso_lint.proofs.rows.clean_rows.Given as goal

abbrev pub invariant-loop-number : goal.invariant-loop-number
invariant-loop-number l = Looking l.bodies l.methods l.rows.items l.waiting.items

-- each look takes one from those that wait, and puts one there for each `this` that it takes away
abbrev pub decreases-loop-number : goal.decreases-loop-number
decreases-loop-number l = this_count l.rows.items + length l.waiting.items

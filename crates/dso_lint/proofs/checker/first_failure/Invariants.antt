use Rattle.dso_lint.specs.Judged.{choice_by}
use Rattle.dso_lint.specs.Tables.{AreTables}
use Rattle.dso_lint.proofs.judging.Verdicts.{PassBefore}
use Rattle.dso_lint.proofs.checker.first_failure.Given as goal

abbrev pub invariant-loop-number : goal.invariant-loop-number
invariant-loop-number l = PassBefore l.fn.code (choice_by l.fn.code l.fn.bodies) l.number × AreTables l.fn.code l.tables

use Rattle.cluster_cases.specs.Driving.{Goes}
use Rattle.cluster_cases.proofs.parts.rows_told.Given as goal

abbrev pub invariant-loop-row : goal.invariant-loop-row
invariant-loop-row l = Goes l.program.code l.driven

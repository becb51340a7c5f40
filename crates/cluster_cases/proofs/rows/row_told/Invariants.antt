use Rattle.cluster_cases.specs.Driving.{Goes}
use Rattle.cluster_cases.proofs.rows.row_told.Given as goal

abbrev pub invariant-loop-step : goal.invariant-loop-step
invariant-loop-step l = Goes l.code l.driven

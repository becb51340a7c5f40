use Rattle.std.proofs.Common.{◌∙◌}
use Rattle.dso_machine.proofs.steps.Steps.{keeps_then}
use Rattle.dso_machine.proofs.machine.Core.settle.Goals as goal

pub going-preserved : goal.going-preserved
going-preserved c = record {
  kept = keeps_then _ _ _ _ _ _ _ c.going.invariant.kept c.in_ok-now.ensures.keeps;
  steady = c.in_ok-now.ensures.calm ∙ c.going.invariant.steady;
}

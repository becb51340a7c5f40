use Rattle.std.proofs.Common.{drop}
use Rattle.dso_law.specs.FitsDown.{FitFrom}
use Rattle.dso_law.proofs.shapes.values_fit.Given as goal

abbrev pub invariant-loop-field : goal.invariant-loop-field
invariant-loop-field l = (FitFrom l.shape l.class l.field (drop l.field l.values) → FitFrom l.shape l.class 0 l.values) × (FitFrom l.shape l.class 0 l.values → FitFrom l.shape l.class l.field (drop l.field l.values))

use Rattle.std.proofs.Common.{◌<◌, ℕ, get_or}
use Rattle.dso_lint.specs.declared.holds.Hold.{Hold}
use Rattle.dso_lint.specs.Holds.{MayBy}
use Rattle.dso_lint.proofs.holds.is_held.Given as goal

abbrev pub invariant-loop-hold : goal.invariant-loop-hold
invariant-loop-hold l = (k : ℕ) (d : Hold) → k < l.hold-index → MayBy (get_or l.holds k d) l.variable l.write → ⊥

use Rattle.std.proofs.Common.{length}
use Rattle.dso_keep.specs.Fitting.{IsRising}
use Rattle.dso_keep.proofs.fitting.are_rising.Given as goal

abbrev pub invariant-loop-rest : goal.invariant-loop-rest
invariant-loop-rest l = (IsRising l.rest → IsRising l.news) × (IsRising l.news → IsRising l.rest)

abbrev pub decreases-loop-rest : goal.decreases-loop-rest
decreases-loop-rest l = length l.rest

use Rattle.std.proofs.Common.{◌≡◌, length}
use Rattle.dso_tokens.specs.Scan as spec
use Rattle.dso_tokens.proofs.scan.mark_among.Given as goal

-- none of those passed stands at the front
abbrev pub invariant-loop-marks : goal.invariant-loop-marks
invariant-loop-marks l = spec.mark_among l.marks l.text ≡ spec.mark_among l.initial.marks l.text

abbrev pub decreases-loop-marks : goal.decreases-loop-marks
decreases-loop-marks l = length l.marks

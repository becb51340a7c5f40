use Rattle.std.proofs.Common.{◌≤◌, length, reverse, take}
use Rattle.dso_plain.specs.Possible.{StandsFrom}
use Rattle.dso_plain.proofs.reads.stands_in.Given as goal

-- above the place that is reached the value does not stand
abbrev pub invariant-loop-at : goal.invariant-loop-at
invariant-loop-at l = (l.at ≤ length l.items) × (StandsFrom l.place l.value (reverse l.items) → StandsFrom l.place l.value (reverse (take l.at l.items)))

abbrev pub decreases-loop-at : goal.decreases-loop-at
decreases-loop-at l = l.at

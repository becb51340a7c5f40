use Rattle.std.proofs.Common.{◌≡◌}
use Rattle.dso_base.specs.Block.{opening_from}
use Rattle.dso_change.proofs.opening.opening_values.Given as goal

abbrev pub invariant-loop-field : goal.invariant-loop-field
invariant-loop-field l = l.values.items ≡ opening_from l.shape l.class 0 l.field

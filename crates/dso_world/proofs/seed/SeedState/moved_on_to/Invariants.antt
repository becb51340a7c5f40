use Rattle.std.proofs.Common.{◌≡◌}
use Rattle.dso_world.specs.ChosenSlot.{seed_after}
use Rattle.dso_world.proofs.seed.SeedState.moved_on_to.Given as goal

abbrev pub invariant-loop-move : goal.invariant-loop-move
invariant-loop-move l = l.now ≡ seed_after l._move l.self.seed

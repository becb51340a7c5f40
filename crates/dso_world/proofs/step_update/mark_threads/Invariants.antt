use Rattle.std.specs.Int.{bit_at}
use Rattle.std.proofs.Common.{◌≡◌}
use Rattle.dso_world.specs.AskedAgain.{IsAmong}
use Rattle.dso_world.specs.StepUpdates.{Tells}
use Rattle.dso_world.proofs.step_update.mark_threads.Given as goal

abbrev pub invariant-loop-left : goal.invariant-loop-left
invariant-loop-left l = Tells l.nodes l.steps (λ at. (is : IsAmong l.number l.threads l.steps at) × (bit_at l.left is.thread.index ≡ 0)) l.initial.chooser l.chooser

abbrev pub decreases-loop-left : goal.decreases-loop-left
decreases-loop-left l = l.left

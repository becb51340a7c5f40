use Rattle.std.proofs.Common.{take}
use Rattle.dso_world.specs.StepUpdates.{IsSentTo, Tells}
use Rattle.dso_world.proofs.step_update.mark_sent.Given as goal

abbrev pub invariant-loop-message : goal.invariant-loop-message
invariant-loop-message l = Tells l.nodes l.steps (IsSentTo (take l.message-index l.sent) l.steps) l.initial.chooser l.chooser

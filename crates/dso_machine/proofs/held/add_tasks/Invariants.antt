use Rattle.std.proofs.Common.{◌≡◌, take}
use Rattle.dso_machine.specs.Frames.{with_tasks}
use Rattle.dso_machine.proofs.held.add_tasks.Given as goal

abbrev pub invariant-loop-task : goal.invariant-loop-task
invariant-loop-task l = l.held.items ≡ with_tasks l.initial.held.items (take l.task-index l.tasks)

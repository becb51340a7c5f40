use Rattle.std.proofs.Common.{◌≡◌, take}
use Rattle.dso_machine.specs.Frames.{objects_of}
use Rattle.dso_machine.proofs.held.objects_in.Given as goal

abbrev pub invariant-loop-value : goal.invariant-loop-value
invariant-loop-value l = l.objects.items ≡ objects_of (take l.value-index l.values)

use Rattle.std.proofs.Common.{◌≡◌, [], take}
use Rattle.dso_change.specs.Hands.{with_references}
use Rattle.dso_change.proofs.publish.references_in.Given as goal

abbrev pub invariant-loop-value : goal.invariant-loop-value
invariant-loop-value l = l.named.items ≡ with_references (take l.value-index l.values) []

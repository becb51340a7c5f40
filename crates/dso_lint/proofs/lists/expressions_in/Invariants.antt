use Rattle.std.proofs.Common.{take}
use Rattle.dso_lint.specs.Lists.{Adds}
use Rattle.dso_lint.proofs.standing.Additions.{OfOne, Does}
use Rattle.dso_lint.proofs.lists.expressions_in.Given as goal

abbrev pub invariant-loop-a : goal.invariant-loop-a
invariant-loop-a l = Adds (OfOne Does (take l.a-index l.statements)) l.initial.list.items l.list.items

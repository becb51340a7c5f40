use Rattle.std.proofs.Common.{take}
use Rattle.dso_lint.specs.Lists.{Adds}
use Rattle.dso_lint.proofs.standing.Additions.{OfOne}
use Rattle.dso_lint.proofs.standing.Trees.{InOne}
use Rattle.dso_lint.proofs.lists.+statements.Given as goal

abbrev pub invariant-add_statements-loop-a : goal.invariant-add_statements-loop-a
invariant-add_statements-loop-a l = Adds (OfOne InOne (take l.a-index l.block)) l.initial.list.items l.list.items

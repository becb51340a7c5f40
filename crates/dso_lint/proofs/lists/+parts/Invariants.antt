use Rattle.std.proofs.Common.{take}
use Rattle.dso_lint.specs.Lists.{Adds}
use Rattle.dso_lint.specs.Trees.{IsPart}
use Rattle.dso_lint.proofs.standing.Additions.{OfOne}
use Rattle.dso_lint.proofs.lists.+parts.Given as goal

abbrev pub invariant-add_all_parts-loop-whole : goal.invariant-add_all_parts-loop-whole
invariant-add_all_parts-loop-whole l = Adds (OfOne IsPart (take l.whole-index l.all)) l.initial.list.items l.list.items

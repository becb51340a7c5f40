use Rattle.std.proofs.Common.{List}
use Rattle.dso_machine.specs.declared.tree.Stmt.{Stmt}
use Rattle.dso_lint.specs.Lists.{Lists}
use Rattle.dso_lint.specs.Narrowing.{NarrowsSoFar, Shrinks}
use Rattle.dso_lint.specs.Trees.{StandsIn}
use Rattle.dso_lint.proofs.narrow.narrow.Given as goal

abbrev pub invariant-loop-a : goal.invariant-loop-a
invariant-loop-a l = Shrinks l.initial.row l.row l.changed
    × ((block : List Stmt) → Lists (λ a. StandsIn a block) l.statements → NarrowsSoFar block l.statements l.a-index l.initial.row l.row l.changed)

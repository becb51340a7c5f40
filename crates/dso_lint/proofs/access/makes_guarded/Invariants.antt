use Rattle.std.proofs.Common.{List}
use Rattle.dso_lint.specs.Scenes.{IsScene}
use Rattle.dso_lint.specs.Sites.{Site}
use Rattle.dso_lint.proofs.guarding.Makings.{ReadSoFar}
use Rattle.dso_lint.proofs.access.makes_guarded.Given as goal

abbrev pub invariant-loop-e : goal.invariant-loop-e
invariant-loop-e l = (sites : List Site) → IsScene l.fn.scene sites → ReadSoFar l.fn.scene sites l.expressions l.e-index

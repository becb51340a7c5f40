use Rattle.std.proofs.Common.{◌<◌, ℕ, List, get_or}
use Rattle.dso_machine.specs.declared.tree.Stmt.{Stmt}
use Rattle.dso_lint.specs.Scenes.{IsScene}
use Rattle.dso_lint.specs.Sites.{Site}
use Rattle.dso_lint.proofs.guarding.Under.{IsGuardedOne}
use Rattle.dso_lint.proofs.access.+guarded.Given as goal

abbrev pub invariant-all_guarded-loop-a : goal.invariant-all_guarded-loop-a
invariant-all_guarded-loop-a l = (sites : List Site) → IsScene l.fn.scene sites → (k : ℕ) (d : Stmt) → k < l.a-index → IsGuardedOne l.fn.scene sites (get_or l.block k d)

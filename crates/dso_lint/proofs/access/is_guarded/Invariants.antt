use Rattle.std.proofs.Common.{◌<◌, ℕ, get_or}
use Rattle.std.specs.Prelude.{IsTrue, slice_get}
use Rattle.dso_base.specs.Shape.{fields_at}
use Rattle.dso_lint.specs.Access.{ByGuard, IsNamed}
use Rattle.dso_lint.proofs.access.is_guarded.Given as goal

abbrev pub invariant-loop-place : goal.invariant-loop-place
invariant-loop-place l = (k : ℕ) (d : ℕ × ℕ) → k < l.place-index → ByGuard (IsTrue l.locked) (IsNamed l.fn.scene.named l.write) (slice_get (fields_at l.fn.scene.shape.now (get_or l.places k d).0) (get_or l.places k d).1)

use Rattle.std.proofs.Common.{refl, ℕ, arith, get_or, sym, subst, ◌∙◌}
use Rattle.std.specs.Prelude.{All, IsTrue, slice_get}
use Rattle.dso_base.specs.Shape.{fields_at}
use Rattle.dso_lint.specs.Access.{ByGuard, IsNamed}
use Rattle.dso_lint.specs.Scenes.{IsLockedIn}
use Rattle.dso_lint.proofs.guarding.Guards.{by_weaker}
use Rattle.dso_lint.proofs.access.is_guarded.Goals as goal

pub returns-then-not-is_variable : goal.returns-then-not-is_variable
returns-then-not-is_variable c sites scene = (λ q. absurd (cc q), λ g. sym c.if-not-is_variable.true ∙ c.is_variable.ensures.1 g.0)

pub returns-then-not-is_guarded_at : goal.returns-then-not-is_guarded_at
returns-then-not-is_guarded_at c sites scene = (
  λ q. absurd (cc q),
  λ g.
      let shape = c.args.scene.now.shape.now in
      let named = IsNamed c.args.scene.now.named c.args.write in
      let own = IsLockedIn c.args.scene.now sites c.args.object.now c.args.write in
      let locked = IsTrue c.is_locked-locked.result in
      let places = c.as_slice-places.result.now in
      let place = get_or places c.loop-place.place-index (0, 0) in
      let all : All (λ (p : ℕ × ℕ). ByGuard own named (slice_get (fields_at shape p.0) p.1)) places = subst (All (λ (p : ℕ × ℕ). ByGuard own named (slice_get (fields_at shape p.0) p.1))) (sym (c.as_slice-places.ensures ∙ c.get.ensures)) g.1 in
      let here = all c.loop-place.place-index (0, 0) c.loop-place-test.true in
      sym c.if-not-is_guarded_at.true ∙ c.is_guarded_at.ensures.1 (by_weaker own named locked (slice_get (fields_at shape place.0) place.1) (c.is_locked-locked.ensures sites scene).1 here),
)

pub returns : goal.returns
returns c sites scene = (
  λ q.
      let shape = c.args.scene.now.shape.now in
      let named = IsNamed c.args.scene.now.named c.args.write in
      let own = IsLockedIn c.args.scene.now sites c.args.object.now c.args.write in
      let locked = IsTrue c.is_locked-locked.result in
      let places = c.as_slice-places.result.now in
      let each : All (λ (p : ℕ × ℕ). ByGuard own named (slice_get (fields_at shape p.0) p.1)) places = λ k d low.
      by_weaker locked named own (slice_get (fields_at shape (get_or places k d).0) (get_or places k d).1) (c.is_locked-locked.ensures sites scene).0 (c.loop-place.invariant k d (omega (arith, low, c.loop-place-test.false))) in
      (c.is_variable.ensures.0 c.if-not-is_variable.false, subst (All (λ (p : ℕ × ℕ). ByGuard own named (slice_get (fields_at shape p.0) p.1))) (c.as_slice-places.ensures ∙ c.get.ensures) each),
  λ g. refl,
)

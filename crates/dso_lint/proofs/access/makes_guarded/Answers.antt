use Rattle.std.proofs.Common.{◌≡◌, ◌⊎◌, inl, inr, arith, get_or, sym, subst, ap, ◌∙◌}
use Rattle.std.specs.Borrow.{Bor}
use Rattle.std.proofs.lemmas.Bool.{cases_eq}
use Rattle.std.proofs.lemmas.List.{get_or_default}
use Rattle.dso_machine.specs.declared.tree.Expr.{Expr}
use Rattle.dso_lint.specs.Lists.{Lists}
use Rattle.dso_lint.specs.Scenes.{ReadsGuarded}
use Rattle.dso_lint.specs.Trees.{Evaluates}
use Rattle.dso_lint.proofs.guarding.Makings.{makes_guarded, reads_guarded, writes_guarded}
use Rattle.dso_lint.proofs.access.makes_guarded.Goals as goal

pub returns-then-not-reads_guarded : goal.returns-then-not-reads_guarded
returns-then-not-reads_guarded c sites so =
    let scene = c.args.scene.now in
    let a = c.args.a.now in
    let e = c.e-item.result in
    let lists : Lists (Evaluates a) c.as_slice-expressions.result.now = subst (Lists (Evaluates a)) (sym c.as_slice-expressions.ensures.value) c.in_ok-list.ensures in
    let evaluates : Evaluates a e.now = subst (λ (b : Bor Expr). Evaluates a b.now) (sym c.e-item.is) (lists.only c.loop-e.e-index e c.loop-e-test.true) in (
      λ q. absurd (cc q),
      λ made. sym c.if-not-reads_guarded.true ∙ (c.reads_guarded.ensures sites so).1 (reads_guarded scene sites a e.now evaluates made),
    )

pub loop-e-preserved : goal.loop-e-preserved
loop-e-preserved c sites so k d low = by (cases_eq k c.loop-e.e-index)
  where
    by : (k ≡ c.loop-e.e-index) ⊎ (k ≡ c.loop-e.e-index → ⊥) → ReadsGuarded c.args.scene.now sites (get_or c.as_slice-expressions.result.now k d).now
    by (inl same) =
        let list = c.as_slice-expressions.result.now in
        let at : get_or list k d ≡ c.e-item.result = ap (λ n. get_or list n d) same ∙ get_or_default list c.loop-e.e-index d c.e-item.result c.loop-e-test.true ∙ sym c.e-item.is in
        subst (λ (b : Bor Expr). ReadsGuarded c.args.scene.now sites b.now) (sym at) ((c.reads_guarded.ensures sites so).0 c.if-not-reads_guarded.false)
    by (inr other) = c.loop-e.invariant sites so k d (omega (arith, low, other))

pub returns : goal.returns
returns c sites so =
    let scene = c.args.scene.now in
    let a = c.args.a.now in
    let list = c.as_slice-expressions.result.now in
    let lists : Lists (Evaluates a) list = subst (Lists (Evaluates a)) (sym c.as_slice-expressions.ensures.value) c.in_ok-list.ensures in (
      λ q. makes_guarded scene sites a list lists (λ k d low. c.loop-e.invariant sites so k d (omega (arith, low, c.loop-e-test.false))) ((c.writes_guarded.ensures sites so).0 q),
      λ made. (c.writes_guarded.ensures sites so).1 (writes_guarded scene sites a made),
    )

use Rattle.std.proofs.Common.{◌≡◌, ◌⊎◌, inl, inr, refl, arith, get_or, sym, subst, ap, ◌∙◌}
use Rattle.std.specs.Borrow.{Bor}
use Rattle.std.proofs.lemmas.Bool.{cases_eq}
use Rattle.std.proofs.lemmas.List.{get_or_default}
use Rattle.dso_machine.specs.declared.tree.Expr.{Expr}
use Rattle.dso_machine.specs.declared.tree.Expr.TheVariants as x
use Rattle.dso_machine.specs.declared.tree.Stmt.{Stmt}
use Rattle.dso_machine.specs.declared.tree.Stmt.TheVariants as s
use Rattle.dso_lint.specs.Quiet.{Publishes, root, element, reference}
use Rattle.dso_lint.proofs.quiet.is_quiet.Goals as goal

pub loop-a-preserved : goal.loop-a-preserved
loop-a-preserved c k d low p = by (cases_eq k c.loop-a.a-index)
  where
    by : (k ≡ c.loop-a.a-index) ⊎ (k ≡ c.loop-a.a-index → ⊥) → ⊥
    by (inl same) =
        let statements = c.args.statements.now in
        let at : get_or statements k d ≡ c.a-item.result = ap (λ n. get_or statements n d) same ∙ get_or_default statements c.loop-a.a-index d c.a-item.result c.loop-a-test.true ∙ sym c.a-item.is in
        let mine : Publishes c.args.shape.now c.a-item.result.now = subst (λ (b : Bor Stmt). Publishes c.args.shape.now b.now) at p in
        cc (sym (c.publishes.ensures.1 mine) ∙ c.if-publishes.false)
    by (inr other) = c.loop-a.invariant k d (omega (arith, low, other)) p

pub returns : goal.returns
returns c block stands uses = (
  λ t. record {
    no_call = λ a callees args is.
        let f = uses.all (x.Call a callees args) is in
        c.loop-e.invariant f.1.0 f.0 (omega (arith, f.1.1, c.loop-e-test.false)) (record { receiver = a; callees = callees; args = args; is = ap (λ (b : Bor Expr). b.now) f.1.2 ∙ f.2 });
    no_root = λ r a is.
        let f = stands.all (s.PutRoot r a) is in
        c.loop-a.invariant f.1.0 f.0 (omega (arith, f.1.1, c.loop-a-test.false)) (root r a (ap (λ (b : Bor Stmt). b.now) f.1.2 ∙ f.2));
    no_element = λ a i v is.
        let f = stands.all (s.PutElem a i v) is in
        c.loop-a.invariant f.1.0 f.0 (omega (arith, f.1.1, c.loop-a-test.false)) (element a i v (ap (λ (b : Bor Stmt). b.now) f.1.2 ∙ f.2));
    no_reference = λ a v field is ref.
        let f = stands.all (s.PutField a field v) is in
        c.loop-a.invariant f.1.0 f.0 (omega (arith, f.1.1, c.loop-a-test.false)) (reference a v field (ap (λ (b : Bor Stmt). b.now) f.1.2 ∙ f.2) ref);
  },
  λ q. refl,
)

use Rattle.std.proofs.Common.{◌≡◌, refl, sym, subst, ◌∙◌}
use Rattle.dso_base.specs.declared.shape.Shape.{Shape}
use Rattle.dso_machine.specs.declared.tree.FieldRef.{FieldRef}
use Rattle.dso_machine.specs.declared.tree.Expr.{Expr}
use Rattle.dso_machine.specs.declared.tree.Stmt.{Stmt}
use Rattle.dso_machine.specs.declared.tree.Stmt.TheVariants as s
use Rattle.dso_lint.specs.Access.{IsRefField}
use Rattle.dso_lint.specs.Quiet.{Publishes, root, element, reference}
use Rattle.dso_lint.proofs.quiet.publishes.Goals as goal

-- a write to a field that publishes is one to a field of kind ref
of_reference : (shape : Shape) (a : Stmt) (object value : Expr) (f : FieldRef) → a ≡ s.PutField object f value → Publishes shape a → IsRefField shape f
of_reference shape a object value f is (root r other so) = absurd (cc (sym is ∙ so))
of_reference shape a object value f is (element array index other so) = absurd (cc (sym is ∙ so))
of_reference shape a object value f is (reference other_object other_value other so ref) =
    let both : s.PutField other_object other other_value ≡ s.PutField object f value = sym so ∙ is in
    let same : other ≡ f = cc both in
    subst (IsRefField shape) same ref

pub returns-in-PutField : goal.returns-in-PutField
returns-in-PutField c = (
  λ t. reference _ _ _ c.in-PutField.is (c.is_ref_field.ensures.0 t),
  λ p. c.is_ref_field.ensures.1 (of_reference c.args.shape.now c.args.a.now _ _ c.in-PutField.field c.in-PutField.is p),
)

pub returns-in-PutRoot : goal.returns-in-PutRoot
returns-in-PutRoot c = (λ t. root _ _ c.in-PutRoot.is, λ p. refl)

pub returns-in-PutElem : goal.returns-in-PutElem
returns-in-PutElem c = (λ t. element _ _ _ c.in-PutElem.is, λ p. refl)

-- What publishes: calls, and writes to roots, elements and fields of kind ref.
use Rattle.std.specs.Prelude.{◌≡◌, ℕ, List}
use Rattle.dso_base.specs.declared.shape.Shape.{Shape}
use Rattle.dso_machine.specs.declared.tree.FieldRef.{FieldRef}
use Rattle.dso_machine.specs.declared.tree.Expr.{Expr}
use Rattle.dso_machine.specs.declared.tree.Expr.TheVariants as x
use Rattle.dso_machine.specs.declared.tree.Stmt.{Stmt}
use Rattle.dso_machine.specs.declared.tree.Stmt.TheVariants as s
use Rattle.dso_lint.specs.Access.{IsRefField}

-- the expression is a call
pub record IsCall (e : Expr) : Type 0 where
  pub receiver : Expr
  pub callees : List (ℕ × ℕ)
  pub args : List Expr
  pub is : e ≡ x.Call receiver callees args

-- the statement itself writes to a root, an element, or a field of kind ref
pub data Publishes (shape : Shape) (a : Stmt) : Type 0 where
  root : (r : ℕ) (value : Expr) → a ≡ s.PutRoot r value → Publishes shape a
  element : (array index value : Expr) → a ≡ s.PutElem array index value → Publishes shape a
  reference : (object value : Expr) (f : FieldRef) → a ≡ s.PutField object f value → IsRefField shape f →
      Publishes shape a

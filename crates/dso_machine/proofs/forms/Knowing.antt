-- What is known of each form of expression that asks nothing.
use Rattle.std.proofs.Common.{◌≡◌, ℕ, List, ◌∷◌, refl, ap, ◌∙◌}
use Rattle.std.specs.Prelude.{false, Ok, Err, slice_index_or}
use Rattle.dso_base.specs.declared.op.Op.{Op}
use Rattle.dso_base.specs.declared.op.Op.TheVariants as op
use Rattle.dso_base.specs.declared.request.Fault.{Fault}
use Rattle.dso_base.specs.declared.request.Reply.{Reply}
use Rattle.dso_base.specs.declared.value.Value.{Value}
use Rattle.dso_base.specs.declared.value.Value.TheVariants as value
use Rattle.dso_machine.specs.declared.code.Code.{Code}
use Rattle.dso_machine.specs.declared.continuation.Frame.{Frame}
use Rattle.dso_machine.specs.declared.tree.Expr.{Expr}
use Rattle.dso_machine.specs.declared.tree.Expr.TheVariants as e
use Rattle.dso_machine.specs.Continuation.{in_frame, expr_at}
use Rattle.dso_machine.specs.Expressions.{second}
use Rattle.dso_machine.specs.KnownValues.{Knows, is_lazy}
use Rattle.dso_machine.specs.Outcome.{Meaning, State, on_value, on_next, result_of, restored}
use Rattle.dso_machine.specs.Statements.{methods}
use Rattle.dso_machine.specs.Values.{binary, unary}
use Rattle.dso_machine.proofs.forms.Equations as is

-- an operator that wants both operands
pub eager : (o : Op) (m : Meaning) (v : Value) (at : State) → is_lazy o ≡ false → second o m v at ≡ on_next (λ x y. result_of (binary o x y)) m v at
eager op.Add m v at h = refl
eager op.Sub m v at h = refl
eager op.Mul m v at h = refl
eager op.Div m v at h = refl
eager op.Rem m v at h = refl
eager op.Eq m v at h = refl
eager op.Ne m v at h = refl
eager op.Lt m v at h = refl
eager op.Le m v at h = refl
eager op.Gt m v at h = refl
eager op.Ge m v at h = refl
eager op.And m v at h = absurd (cc h)
eager op.Or m v at h = absurd (cc h)
eager op.Not m v at h = refl
eager op.Neg m v at h = refl

module _ (c : Code) (f : Frame) where
  pub knows_Const : (v : Value) → Knows c (e.Const v) f (Ok v)
  knows_Const v = record { knows = λ n k m u rs. ap (λ g. g (in_frame f u m rs)) (is.expr_Const c (methods c n) v) }

  pub knows_Var : (i : ℕ) → Knows c (e.Var i) f (Ok (slice_index_or f.vars i value.Null))
  knows_Var i = record { knows = λ n k m u rs. ap (λ g. g (in_frame f u m rs)) (is.expr_Var c (methods c n) i) }

  pub knows_This : Knows c e.This f (Ok f.this)
  knows_This = record { knows = λ n k m u rs. ap (λ g. g (in_frame f u m rs)) (is.expr_This c (methods c n)) }

  pub knows_Unary : (o : Op) (a : Expr) (v : Value) → Knows c a f (Ok v) → Knows c (e.Unary o a) f (unary o v)
  knows_Unary o a v h = record {
    knows = λ n k m u rs. ap (λ g. g (in_frame f u m rs)) (is.expr_Unary c (methods c n) o a) ∙ ap (on_value (λ x. result_of (unary o x))) (h.knows n k m u rs);
  }

  pub unary_fails : (o : Op) (a : Expr) (fault : Fault) → Knows c a f (Err fault) → Knows c (e.Unary o a) f (Err fault)
  unary_fails o a fault h = record {
    knows = λ n k m u rs. ap (λ g. g (in_frame f u m rs)) (is.expr_Unary c (methods c n) o a) ∙ ap (on_value (λ x. result_of (unary o x))) (h.knows n k m u rs);
  }

  -- of a binary operation whose first operand has a value, what the second operand comes to while that is held
  behind : (o : Op) (a b : Expr) (v : Value) (n k m : ℕ) (u : List Value) (rs : List Reply) → is_lazy o ≡ false → Knows c a f (Ok v)
      → expr_at c n k (e.Binary o a b) (in_frame f u m rs) ≡ on_value (λ y. result_of (binary o v y)) (restored u (expr_at c n k b (in_frame f (v ∷ u) m rs)))
  behind o a b v n k m u rs both h =
      ap (λ g. g (in_frame f u m rs)) (is.expr_Binary c (methods c n) o a b)
      ∙ ap (on_value (second o (expr_at c n k b))) (h.knows n k m u rs)
      ∙ eager o (expr_at c n k b) v (in_frame f u m rs) both

  pub knows_Binary : (o : Op) (a b : Expr) (v w : Value) → is_lazy o ≡ false → Knows c a f (Ok v) → Knows c b f (Ok w) → Knows c (e.Binary o a b) f (binary o v w)
  knows_Binary o a b v w both x y = record {
    knows = λ n k m u rs. behind o a b v n k m u rs both x ∙ ap (λ z. on_value (λ y. result_of (binary o v y)) (restored u z)) (y.knows n k m (v ∷ u) rs);
  }

  pub second_fails : (o : Op) (a b : Expr) (v : Value) (fault : Fault) → is_lazy o ≡ false → Knows c a f (Ok v) → Knows c b f (Err fault) → Knows c (e.Binary o a b) f (Err fault)
  second_fails o a b v fault both x y = record {
    knows = λ n k m u rs. behind o a b v n k m u rs both x ∙ ap (λ z. on_value (λ y. result_of (binary o v y)) (restored u z)) (y.knows n k m (v ∷ u) rs);
  }

  pub first_fails : (o : Op) (a b : Expr) (fault : Fault) → Knows c a f (Err fault) → Knows c (e.Binary o a b) f (Err fault)
  first_fails o a b fault h = record {
    knows = λ n k m u rs. ap (λ g. g (in_frame f u m rs)) (is.expr_Binary c (methods c n) o a b) ∙ ap (on_value (second o (expr_at c n k b))) (h.knows n k m u rs);
  }

pub ruleset knowing = (knows_Const, knows_Var, knows_This, knows_Unary, unary_fails, knows_Binary, second_fails, first_fails)

-- The second operand of an operator that wants both, while the first is held.
use Rattle.std.proofs.Common.{◌≡◌, refl, subst, sym}
use Rattle.dso_base.specs.declared.op.Op.{Op}
use Rattle.dso_base.specs.declared.op.Op.TheVariants as op
use Rattle.dso_base.specs.declared.value.Value.{Value}
use Rattle.dso_machine.specs.declared.code.Code.{Code}
use Rattle.dso_machine.specs.declared.continuation.Frame.{Frame}
use Rattle.dso_machine.specs.declared.continuation.Now.TheVariants as now
use Rattle.dso_machine.specs.declared.continuation.OnValue.TheVariants as then
use Rattle.dso_machine.specs.declared.continuation.Step.{Step}
use Rattle.dso_machine.specs.declared.tree.Expr.{Expr}
use Rattle.dso_machine.specs.Continuation.{Uses, used}

pub second_uses : (code : Code) (frame : Frame) (o : Op) (operand : Expr) (v : Value) (step : Step) → (o ≡ op.And → ⊥) → (o ≡ op.Or → ⊥)
    → step ≡ used (now.Evaluate operand) (then.Second o v) → Uses code (then.First o operand) v frame step frame
second_uses code frame o operand v step no_and no_or is = subst (λ s. Uses code (then.First o operand) v frame s frame) (sym is) (at o no_and no_or)
  where
    at : (p : Op) → (p ≡ op.And → ⊥) → (p ≡ op.Or → ⊥) → Uses code (then.First p operand) v frame (used (now.Evaluate operand) (then.Second p v)) frame
    at op.Add no_and no_or = record { uses = λ n k m u rs. refl }
    at op.Sub no_and no_or = record { uses = λ n k m u rs. refl }
    at op.Mul no_and no_or = record { uses = λ n k m u rs. refl }
    at op.Div no_and no_or = record { uses = λ n k m u rs. refl }
    at op.Rem no_and no_or = record { uses = λ n k m u rs. refl }
    at op.Lt no_and no_or = record { uses = λ n k m u rs. refl }
    at op.Le no_and no_or = record { uses = λ n k m u rs. refl }
    at op.Gt no_and no_or = record { uses = λ n k m u rs. refl }
    at op.Ge no_and no_or = record { uses = λ n k m u rs. refl }
    at op.Eq no_and no_or = record { uses = λ n k m u rs. refl }
    at op.Ne no_and no_or = record { uses = λ n k m u rs. refl }
    at op.Not no_and no_or = record { uses = λ n k m u rs. refl }
    at op.Neg no_and no_or = record { uses = λ n k m u rs. refl }
    at op.And no_and no_or = absurd (no_and refl)
    at op.Or no_and no_or = absurd (no_or refl)

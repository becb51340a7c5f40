-- What an expression comes to that asks nothing: in a frame its value, or its fault, is known.
use Rattle.std.specs.Prelude.{◌≡◌, ℕ, Bool, true, false, List, Result}
use Rattle.dso_base.specs.declared.op.Op.{Op}
use Rattle.dso_base.specs.declared.op.Op.TheVariants as op
use Rattle.dso_base.specs.declared.request.Fault.{Fault}
use Rattle.dso_base.specs.declared.request.Reply.{Reply}
use Rattle.dso_base.specs.declared.value.Value.{Value}
use Rattle.dso_machine.specs.declared.code.Code.{Code}
use Rattle.dso_machine.specs.declared.continuation.Frame.{Frame}
use Rattle.dso_machine.specs.declared.tree.Expr.{Expr}
use Rattle.dso_machine.specs.Continuation.{expr_at, in_frame}
use Rattle.dso_machine.specs.Outcome.{result_of}

-- The expression comes to this in the frame, whatever replies are left: it asks nothing and makes no move.
pub record Knows (code : Code) (a : Expr) (frame : Frame) (outcome : Result Value Fault) : Type 0 where
  pub knows : (n k moves : ℕ) (outer : List Value) (rs : List Reply) →
      expr_at code n k a (in_frame frame outer moves rs) ≡ result_of outcome (in_frame frame outer moves rs)

-- whether an operator may do without its second operand
abbrev pub is_lazy : Op → Bool
is_lazy op.And = true
is_lazy op.Or = true
is_lazy o = false

-- What symbols and words of the language stand for: operators with their ranks, signs, kinds of values.
use Rattle.std.specs.Prelude.{ℕ, Option, Some, None}
use Rattle.dso_base.specs.declared.op.Op.{Op}
use Rattle.dso_base.specs.declared.op.Op.TheVariants as op
use Rattle.dso_base.specs.declared.value.Kind.{Kind}
use Rattle.dso_base.specs.declared.value.Kind.TheVariants as kind
use Rattle.dso_tokens.specs.declared.token.Keyword.{Keyword}
use Rattle.dso_tokens.specs.declared.token.Keyword.TheVariants as k
use Rattle.dso_tokens.specs.declared.token.Mark.{Mark}
use Rattle.dso_tokens.specs.declared.token.Mark.TheVariants as m

-- the words for kinds of values
abbrev pub kind_of : Keyword → Option Kind
kind_of k.Long = Some kind.Long
kind_of k.Boolean = Some kind.Bool
kind_of k.Text = Some kind.Text
kind_of k.Ref = Some kind.Ref
kind_of word = None

-- the operators between two operands, each with its rank: the lower the rank, the tighter it binds
abbrev pub operator_of : Mark → Option (ℕ × Op)
operator_of m.Star = Some (0, op.Mul)
operator_of m.Slash = Some (0, op.Div)
operator_of m.Percent = Some (0, op.Rem)
operator_of m.Plus = Some (1, op.Add)
operator_of m.Minus = Some (1, op.Sub)
operator_of m.Less = Some (2, op.Lt)
operator_of m.LessEqual = Some (2, op.Le)
operator_of m.Greater = Some (2, op.Gt)
operator_of m.GreaterEqual = Some (2, op.Ge)
operator_of m.EqualTo = Some (3, op.Eq)
operator_of m.NotEqual = Some (3, op.Ne)
operator_of m.AndAnd = Some (4, op.And)
operator_of m.OrOr = Some (5, op.Or)
operator_of other = None

-- the operators before one operand
abbrev pub sign_of : Mark → Option Op
sign_of m.Minus = Some op.Neg
sign_of m.Bang = Some op.Not
sign_of other = None

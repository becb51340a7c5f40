-- What the operators give: arithmetic that wraps, comparisons, equality, and which values a field takes.
use Rattle.std.specs.Prelude.{Bool, true, false, cond, not, eqb, ℤ, pos, ◌+ℤ◌, ◌-ℤ◌, ◌*ℤ◌, int_lt, int_le, int_div}
use Rattle.std.specs.Prelude.{int_rem, Result, Ok, Err}
use Rattle.std.specs.Int.{int_wrap}
use Rattle.std.specs.Ordering.{int_eq}
use mir.Syntax.{w64}
use Rattle.dso_base.specs.declared.op.Op.{Op}
use Rattle.dso_base.specs.declared.op.Op.TheVariants as op
use Rattle.dso_base.specs.declared.request.Fault.{Fault}
use Rattle.dso_base.specs.declared.request.Fault.TheVariants.{BadValue, ZeroDivide}
use Rattle.dso_base.specs.declared.value.Kind.{Kind}
use Rattle.dso_base.specs.declared.value.Kind.TheVariants as kind
use Rattle.dso_base.specs.declared.value.Value.{Value}
use Rattle.dso_base.specs.declared.value.Value.TheVariants as value

-- the long that is left of a number in 64 bits
abbrev pub wrapped : ℤ → Value
wrapped z = value.Long (int_wrap w64 z)

-- whether two values are of one kind and have one content
abbrev pub is_same : Value → Value → Bool
is_same value.Null value.Null = true
is_same (value.Long m) (value.Long n) = int_eq m n
is_same (value.Bool a) (value.Bool b) = cond a b (not b)
is_same (value.Text a) (value.Text b) = eqb a b
is_same (value.Ref a) (value.Ref b) = eqb a b
is_same a b = false

-- whether a field of this kind takes the value: object 0 is taken by none
abbrev pub takes : Kind → Value → Bool
takes kind.Long (value.Long n) = true
takes kind.Bool (value.Bool b) = true
takes kind.Text (value.Text t) = true
takes kind.Text value.Null = true
takes kind.Ref (value.Ref object) = not (eqb object 0)
takes kind.Ref value.Null = true
takes k v = false

-- what is left of a division, or its fault where the divisor is 0
abbrev pub unless_zero : ℤ → Value → Result Value Fault
unless_zero n v = cond (int_eq n (pos 0)) (Err ZeroDivide) (Ok v)

-- What a binary operator gives of two longs. Division truncates toward zero, and the remainder has the sign of the
-- dividend.
abbrev pub binary_longs : Op → ℤ → ℤ → Result Value Fault
binary_longs op.Add m n = Ok (wrapped (m +ℤ n))
binary_longs op.Sub m n = Ok (wrapped (m -ℤ n))
binary_longs op.Mul m n = Ok (wrapped (m *ℤ n))
binary_longs op.Div m n = unless_zero n (wrapped (int_div m n))
binary_longs op.Rem m n = unless_zero n (wrapped (int_rem m n))
binary_longs op.Lt m n = Ok (value.Bool (int_lt m n))
binary_longs op.Le m n = Ok (value.Bool (int_le m n))
binary_longs op.Gt m n = Ok (value.Bool (int_lt n m))
binary_longs op.Ge m n = Ok (value.Bool (int_le n m))
binary_longs other m n = Err BadValue

-- What a binary operator gives, those aside that look at the first one alone: `==` and `!=` take any values,
-- the others longs.
abbrev pub binary : Op → Value → Value → Result Value Fault
binary op.Eq a b = Ok (value.Bool (is_same a b))
binary op.Ne a b = Ok (value.Bool (not (is_same a b)))
binary o (value.Long m) (value.Long n) = binary_longs o m n
binary o a b = Err BadValue

-- what a unary operator gives
abbrev pub unary : Op → Value → Result Value Fault
unary op.Not (value.Bool b) = Ok (value.Bool (not b))
unary op.Neg (value.Long n) = Ok (wrapped (pos 0 -ℤ n))
unary o v = Err BadValue

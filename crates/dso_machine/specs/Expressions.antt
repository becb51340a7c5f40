-- What an expression means.
use Rattle.std.specs.Prelude.{ℕ, nat_lt, nat_le, true, false, ℤ, pos, negsuc, [], cond, length, slice_index_or}
use Rattle.std.specs.Prelude.{Option, None, Some}
use Rattle.dso_base.specs.declared.lock.Grade.TheVariants as grade
use Rattle.dso_base.specs.declared.lock.LockName.TheVariants.{Name}
use Rattle.dso_base.specs.declared.op.Op.{Op}
use Rattle.dso_base.specs.declared.op.Op.TheVariants as op
use Rattle.dso_base.specs.declared.request.Fault.TheVariants.{NoSuchField, BadValue, BadIndex, BadSize}
use Rattle.dso_base.specs.declared.request.Request.TheVariants as request
use Rattle.dso_base.specs.declared.shape.Shape.{Shape}
use Rattle.dso_base.specs.declared.value.ClassId.{ClassId}
use Rattle.dso_base.specs.declared.value.ClassId.TheVariants.{Plain, Array, Roots}
use Rattle.dso_base.specs.declared.value.Kind.{Kind}
use Rattle.dso_base.specs.declared.value.Value.{Value}
use Rattle.dso_base.specs.declared.value.Value.TheVariants as value
use Rattle.dso_base.specs.Shape.{fields_at}
use Rattle.dso_machine.specs.declared.code.Code.{Code}
use Rattle.dso_machine.specs.declared.tree.Expr.{Expr, Expr-F, fold-Expr}
use Rattle.dso_machine.specs.declared.tree.Expr.TheOpen as e
use Rattle.dso_machine.specs.declared.tree.FieldRef.{FieldRef}
use Rattle.dso_machine.specs.Calls.{lookup, call_on, arguments, MethodMeanings}
use Rattle.dso_machine.specs.Limits.{most_elements}
use Rattle.dso_machine.specs.Outcome.{Gives, Fails, Meaning, choose, on_value, on_next, on_reply, result_of, ask}
use Rattle.dso_machine.specs.Outcome.{made, get, look, on_object, under}
use Rattle.dso_machine.specs.Values.{unary, binary}

-- ---- fields and elements

-- the field that was found
abbrev pub field_at : ℕ → Option ℕ → Meaning
field_at object None at = Fails NoSuchField at
field_at object (Some place) at = get object place at

-- a field of an object of this class: of an array only its length
abbrev pub field_in : FieldRef → ℕ → ClassId → ℕ → Meaning
field_in f object (Plain class) size at = field_at object (lookup f.places class) at
field_in f object (Array kind) size at = choose f.length (Gives (value.Long (pos size))) (Fails NoSuchField) at
field_in f object Roots size at = Fails NoSuchField at

-- a field of a value
abbrev pub field_of : FieldRef → Value → Meaning
field_of f = on_object (λ object. look (field_in f object) object)

-- the number of an index below the size, if it is there
abbrev pub within : ℤ → ℕ → Option ℕ
within (pos i) size = cond (nat_lt i size) (Some i) None
within (negsuc i) size = None

-- the element that was found
abbrev pub element_at : ℕ → Option ℕ → Meaning
element_at object None at = Fails BadIndex at
element_at object (Some place) at = get object place at

-- an element of an object of this class, which is to be an array
abbrev pub element_in : ℤ → ℕ → ClassId → ℕ → Meaning
element_in i object (Array kind) size at = element_at object (within i size) at
element_in i object class size at = Fails BadValue at

-- an element of a value, at an index that is to be a long
abbrev pub element_of : Value → Value → Meaning
element_of x (value.Long i) = on_object (λ object. look (element_in i object) object) x
element_of x i = on_object (λ object. Fails BadValue) x

-- ---- roots

-- a root is read, under its lock
abbrev pub root : ℕ → Meaning
root r = under (Name r) grade.Read (get 0 r)

-- ---- new objects

-- a new object
abbrev pub make : ClassId → ℕ → Meaning
make class size at = on_reply made (ask (request.New class size) at)

-- a new object of a class of the program
abbrev pub new_object : Shape → ℕ → Meaning
new_object shape class = make (Plain class) (length (fields_at shape class))

-- a new array of a size that is to be a long, and not too great
abbrev pub new_array : Kind → Value → Meaning
new_array kind (value.Long (pos n)) at = choose (nat_le n most_elements) (make (Array kind) n) (Fails BadSize) at
new_array kind (value.Long (negsuc n)) at = Fails BadSize at
new_array kind v at = Fails BadValue at

-- ---- operators

-- the value is to be a boolean
abbrev pub a_boolean : Value → Meaning
a_boolean (value.Bool b) at = Gives (value.Bool b) at
a_boolean v at = Fails BadValue at

-- the second operand, after the value of the first: of `&&` and `||` only where the first doesn't decide
abbrev pub second : Op → Meaning → Value → Meaning
second op.And m (value.Bool true) at = on_value a_boolean (m at)
second op.And m (value.Bool false) at = Gives (value.Bool false) at
second op.And m v at = Fails BadValue at
second op.Or m (value.Bool true) at = Gives (value.Bool true) at
second op.Or m (value.Bool false) at = on_value a_boolean (m at)
second op.Or m v at = Fails BadValue at
second o m a at = on_next (λ x y. result_of (binary o x y)) m a at

-- ---- all forms

-- what an expression means, by what its parts mean
abbrev pub expr_step : Code → MethodMeanings → Expr-F Meaning → Meaning
expr_step code bodies (e.Const v) at = Gives v at
expr_step code bodies (e.Var i) at = Gives (slice_index_or at.environment.vars i value.Null) at
expr_step code bodies e.This at = Gives at.environment.this at
expr_step code bodies (e.Root r) at = root r at
expr_step code bodies (e.Field a f) at = on_value (field_of f) (a at)
expr_step code bodies (e.Elem a b) at = on_value (on_next element_of b) (a at)
expr_step code bodies (e.Call a callees args) at =
    on_value (λ x. arguments (call_on code bodies callees x) x args []) (a at)
expr_step code bodies (e.NewObject class) at = new_object code.shape class at
expr_step code bodies (e.NewArray kind a) at = on_value (new_array kind) (a at)
expr_step code bodies (e.Unary o a) at = on_value (λ v. result_of (unary o v)) (a at)
expr_step code bodies (e.Binary o a b) at = on_value (second o b) (a at)

-- what an expression means
abbrev pub expr : Code → MethodMeanings → Expr → Meaning
expr code bodies = fold-Expr Meaning (expr_step code bodies)

-- What guards a field, and of which kind it is.
use Rattle.std.specs.Prelude.{ℕ, ◌<◌, List, [], length, slice_get, Option, Some, None}
use Rattle.dso_base.specs.declared.lock.LockName.{LockName}
use Rattle.dso_base.specs.declared.lock.LockName.TheVariants.{Mon, Name}
use Rattle.dso_base.specs.declared.shape.ClassShape.{ClassShape}
use Rattle.dso_base.specs.declared.shape.FieldShape.{FieldShape}
use Rattle.dso_base.specs.declared.shape.Guard.{Guard}
use Rattle.dso_base.specs.declared.shape.Guard.TheVariants as guard
use Rattle.dso_base.specs.declared.shape.Shape.{Shape}
use Rattle.dso_base.specs.declared.value.ClassId.{ClassId}
use Rattle.dso_base.specs.declared.value.ClassId.TheVariants.{Plain, Array, Roots}
use Rattle.dso_base.specs.declared.value.Kind.{Kind}
use Rattle.dso_base.specs.declared.value.Kind.TheVariants as kind

-- the fields of a class, none where there is no such class
abbrev pub fields_of : Option ClassShape → List FieldShape
fields_of None = []
fields_of (Some class) = class.fields

-- the fields of the program's class of this number
abbrev pub fields_at : Shape → ℕ → List FieldShape
fields_at shape number = fields_of (slice_get shape.classes number)

-- The class is in the shape and has the field. How many elements an array has is not the shape's to say.
abbrev pub HasField : Shape → ClassId → ℕ → Type 0
HasField shape (Plain number) field = field < length (fields_at shape number)
HasField shape (Array k) field = Unit {0}
HasField shape Roots field = field < shape.roots

-- the lock of a field's guard, for the field of this object
abbrev pub lock_of : Option FieldShape → ℕ → LockName
lock_of None object = Mon object
lock_of (Some field) object = chosen field.guard
  where
    chosen : Guard → LockName
    chosen guard.Own = Mon object
    chosen (guard.Name name) = Name name

-- the lock that guards a field: the field's own word for a class of the program, the monitor for an array's
-- element, and for a root the root's own lock
abbrev pub guard_of : Shape → ClassId → ℕ → ℕ → LockName
guard_of shape (Plain number) object field = lock_of (slice_get (fields_at shape number) field) object
guard_of shape (Array k) object field = Mon object
guard_of shape Roots object field = Name field

-- a field's kind
abbrev pub kind_at : Option FieldShape → Kind
kind_at None = kind.Ref
kind_at (Some field) = field.kind

-- the kind of a field: what its class says, what the array is of, and objects for a root
abbrev pub kind_of : Shape → ClassId → ℕ → Kind
kind_of shape (Plain number) field = kind_at (slice_get (fields_at shape number) field)
kind_of shape (Array k) field = k
kind_of shape Roots field = kind.Ref

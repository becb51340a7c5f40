-- The fields of a map: 256 slots of three fields each, and the size.
use Rattle.std.specs.Prelude.{ℕ, suc, ◌+◌, ◌*◌, ◌<◌, ◌↔◌, Bool, true, false, IsTrue}
use Rattle.dso_base.specs.Value.{Fits}
use Rattle.dso_base.specs.declared.value.Kind.{Kind}
use Rattle.dso_base.specs.declared.value.Kind.TheVariants as kind
use Rattle.dso_base.specs.declared.value.Value.{Value}
use Rattle.dso_base.specs.declared.value.Value.TheVariants as value

-- a field of a map: of a slot whether it was touched, its key and its value; and the size
pub data MapField : Type 0 where
  Touched : ℕ → MapField
  Key : ℕ → MapField
  Held : ℕ → MapField
  Size : MapField

-- how many slots a map has
unfoldable pub slots : ℕ
slots = 256

-- the field is one that a map has
abbrev pub IsMapField : MapField → Type 0
IsMapField (MapField.Touched i) = i < slots
IsMapField (MapField.Key i) = i < slots
IsMapField (MapField.Held i) = i < slots
IsMapField MapField.Size = Unit {0}

-- the number of a field
abbrev pub place_of : MapField → ℕ
place_of (MapField.Touched i) = 3 * i
place_of (MapField.Key i) = 3 * i + 1
place_of (MapField.Held i) = 3 * i + 2
place_of MapField.Size = 768

-- the kind of a field
abbrev pub field_kind : MapField → Kind
field_kind (MapField.Touched i) = kind.Bool
field_kind (MapField.Key i) = kind.Long
field_kind (MapField.Held i) = kind.Ref
field_kind MapField.Size = kind.Long

-- whether the field takes the value: one of its kind, which object 0 is of none
abbrev pub field_takes : MapField → Value → Bool
field_takes (MapField.Touched i) (value.Bool b) = true
field_takes (MapField.Key i) (value.Long n) = true
field_takes (MapField.Held i) (value.Ref (suc o)) = true
field_takes (MapField.Held i) value.Null = true
field_takes MapField.Size (value.Long n) = true
field_takes f v = false

-- A field of a map takes exactly the values that fit its kind.
abbrev pub FieldsTakeTheirKinds : Type 0
FieldsTakeTheirKinds = (f : MapField) (v : Value) → IsTrue (field_takes f v) ↔ Fits (field_kind f) v

-- The class of maps, by its fields.
use Rattle.std.specs.Prelude.{◌≡◌, ℕ, zero, suc, Bool, eqb, List, [], ◌∷◌, ◌++◌, length}
use Rattle.dso_base.specs.declared.shape.ClassShape.{ClassShape}
use Rattle.dso_base.specs.declared.shape.FieldShape.{FieldShape}
use Rattle.dso_base.specs.declared.shape.Guard.TheVariants as guard
use Rattle.dso_base.specs.declared.shape.Shape.{Shape}
use Rattle.dso_base.specs.declared.value.Kind.{Kind}
use Rattle.dso_base.specs.declared.value.Kind.TheVariants as kind
use Rattle.dso_base.specs.Shape.{fields_at}
use Rattle.dso_map.specs.Fields.{slots}

-- a field of this kind, which the map's own monitor guards
abbrev pub own_field : Kind → FieldShape
own_field k = record { kind = k; guard = guard.Own }

-- the fields of so many slots: of each whether it was touched, its key and its value
abbrev pub slot_fields : ℕ → List FieldShape
slot_fields zero = []
slot_fields (suc n) = own_field kind.Bool ∷ own_field kind.Long ∷ own_field kind.Ref ∷ slot_fields n

-- the fields of a map: those of its slots, and the size
abbrev pub map_fields : List FieldShape
map_fields = slot_fields slots ++ own_field kind.Long ∷ []

-- the class is that of maps
abbrev pub IsMapClass : ClassShape → Type 0
IsMapClass class = class.fields ≡ map_fields

-- how many fields a map has
abbrev pub map_size : ℕ
map_size = 769

-- whether the class of this number is that of maps: no other has as many fields
abbrev pub is_map : Shape → ℕ → Bool
is_map shape class = eqb (length (fields_at shape class)) map_size

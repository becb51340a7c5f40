-- The fields of maps: how they are made, how many they are, and that each has the map's own monitor for its guard.
use Rattle.std.proofs.Common.{◌≡◌, ◌∙◌, refl, ap, arith, ℕ, zero, suc, ◌+◌, ◌*◌, All, List, [], ◌∷◌, ◌++◌, length}
use Rattle.std.proofs.lemmas.List.Elements.{All-nil, All-cons}
use Rattle.dso_base.specs.declared.shape.FieldShape.{FieldShape}
use Rattle.dso_base.specs.declared.shape.Shape.{Shape}
use Rattle.dso_base.specs.declared.value.Kind.TheVariants as kind
use Rattle.dso_map.specs.Fields.{slots}
use Rattle.dso_map.specs.MapClass.{own_field, slot_fields, map_fields, map_size}
use Rattle.dso_machine.specs.Sound.{IsGuard, IsSoundClass}

-- the fields of one slot more
pub slot_more : (n : ℕ) → ((slot_fields n ++ own_field kind.Bool ∷ []) ++ own_field kind.Long ∷ []) ++ own_field kind.Ref ∷ [] ≡ slot_fields (suc n)
slot_more zero = refl
slot_more (suc n) = ap (λ fields. own_field kind.Bool ∷ own_field kind.Long ∷ own_field kind.Ref ∷ fields) (slot_more n)

-- behind those of all slots comes the size
pub all_made : (fields : List FieldShape) → fields ≡ slot_fields 256 → fields ++ own_field kind.Long ∷ [] ≡ map_fields
unfolding slots
all_made fields is = ap (λ made. made ++ own_field kind.Long ∷ []) is

pub ruleset fields = (slot_more, all_made)

-- how many there are
fields_long : (n : ℕ) (last : FieldShape) → length (slot_fields n ++ last ∷ []) ≡ 3 * n + 1
fields_long zero last = refl
fields_long (suc n) last = ap (λ long. suc (suc (suc long))) (fields_long n last) ∙ omega arith

all_long : 3 * slots + 1 ≡ map_size
unfolding slots
all_long = refl

pub map_fields_long : length map_fields ≡ map_size
map_fields_long = fields_long slots (own_field kind.Long) ∙ all_long

-- each has the map's own monitor for its guard
own_guards : (shape : Shape) (n : ℕ) → All (λ field. IsGuard shape field.guard) (slot_fields n ++ own_field kind.Long ∷ [])
own_guards shape zero = All-cons (λ field. IsGuard shape field.guard) (own_field kind.Long) [] tt (All-nil (λ field. IsGuard shape field.guard))
own_guards shape (suc n) =
    let rest = slot_fields n ++ own_field kind.Long ∷ [] in
    All-cons (λ field. IsGuard shape field.guard) (own_field kind.Bool) (own_field kind.Long ∷ own_field kind.Ref ∷ rest) tt
    (All-cons (λ field. IsGuard shape field.guard) (own_field kind.Long) (own_field kind.Ref ∷ rest) tt
    (All-cons (λ field. IsGuard shape field.guard) (own_field kind.Ref) rest tt (own_guards shape n)))

-- so their class is sound
pub maps_sound : (shape : Shape) → IsSoundClass shape (record { fields = map_fields })
maps_sound shape = record {
  few_fields = omega (arith, map_fields_long);
  as_map = λ same. refl;
  guards = own_guards shape slots;
}

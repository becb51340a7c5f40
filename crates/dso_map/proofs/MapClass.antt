-- Each field of a map is of its kind, in the class of maps.
use Rattle.std.proofs.Common.{◌≡◌, refl, sym, ap, ◌∙◌, subst, ℕ, zero, suc, ◌+◌, ◌*◌, ◌<◌, arith, List, [], ◌∷◌, ◌++◌, length, slice_get, Option, None, Some}
use Rattle.dso_base.specs.declared.shape.FieldShape.{FieldShape}
use Rattle.dso_base.specs.declared.value.Kind.TheVariants as kind
use Rattle.dso_map.specs.Fields.{MapField, IsMapField, slots, place_of, field_kind}
use Rattle.dso_map.specs.Fields.MapField.{Touched, Key, Held, Size}
use Rattle.dso_map.specs.MapClass.{own_field, slot_fields, map_fields}

-- the fields of so many slots, and others behind them: those of a slot
touched_at : (n i : ℕ) (xs : List FieldShape) → i < n → slice_get (slot_fields n ++ xs) (3 * i) ≡ Some (own_field kind.Bool)
touched_at zero i xs below = absurd (omega arith)
touched_at (suc n) zero xs below = refl
touched_at (suc n) (suc i) xs below =
    let at : 3 * suc i ≡ suc (suc (suc (3 * i))) = omega arith in
    ap (slice_get (slot_fields (suc n) ++ xs)) at ∙ touched_at n i xs (omega arith)

key_at : (n i : ℕ) (xs : List FieldShape) → i < n → slice_get (slot_fields n ++ xs) (3 * i + 1) ≡ Some (own_field kind.Long)
key_at zero i xs below = absurd (omega arith)
key_at (suc n) zero xs below = refl
key_at (suc n) (suc i) xs below =
    let at : 3 * suc i + 1 ≡ suc (suc (suc (3 * i + 1))) = omega arith in
    ap (slice_get (slot_fields (suc n) ++ xs)) at ∙ key_at n i xs (omega arith)

held_at : (n i : ℕ) (xs : List FieldShape) → i < n → slice_get (slot_fields n ++ xs) (3 * i + 2) ≡ Some (own_field kind.Ref)
held_at zero i xs below = absurd (omega arith)
held_at (suc n) zero xs below = refl
held_at (suc n) (suc i) xs below =
    let at : 3 * suc i + 2 ≡ suc (suc (suc (3 * i + 2))) = omega arith in
    ap (slice_get (slot_fields (suc n) ++ xs)) at ∙ held_at n i xs (omega arith)

-- the one behind them
behind_all : (n : ℕ) (x : FieldShape) (xs : List FieldShape) → slice_get (slot_fields n ++ x ∷ xs) (3 * n) ≡ Some x
behind_all zero x xs = refl
behind_all (suc n) x xs =
    let at : 3 * suc n ≡ suc (suc (suc (3 * n))) = omega arith in
    ap (slice_get (slot_fields (suc n) ++ x ∷ xs)) at ∙ behind_all n x xs

all_slots : 3 * slots ≡ 768
unfolding slots
all_slots = refl

-- The class of maps has each field at its place, of its kind, with the map's own monitor as its guard.
pub map_field_is : (f : MapField) → IsMapField f → slice_get map_fields (place_of f) ≡ Some (own_field (field_kind f))
map_field_is (Touched i) below = touched_at slots i (own_field kind.Long ∷ []) below
map_field_is (Key i) below = key_at slots i (own_field kind.Long ∷ []) below
map_field_is (Held i) below = held_at slots i (own_field kind.Long ∷ []) below
map_field_is Size below = ap (slice_get map_fields) (sym all_slots) ∙ behind_all slots (own_field kind.Long) []

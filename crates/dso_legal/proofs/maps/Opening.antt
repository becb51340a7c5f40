-- A new map is empty, and its fields are guarded by its own monitor.
use Rattle.std.proofs.Common.{ℕ, zero, suc, ◌≡◌, ◌<◌, refl, sym, ap, ◌∙◌, subst, true, false, cond, ltb, pos, length, slice_get, Option, Some, None, arith}
use Rattle.std.proofs.lemmas.Bool.{lt-ltb}
use Rattle.dso_base.specs.declared.lock.LockName.TheVariants.{Mon}
use Rattle.dso_base.specs.declared.shape.ClassShape.{ClassShape}
use Rattle.dso_base.specs.declared.shape.Shape.{Shape}
use Rattle.dso_base.specs.declared.value.ClassId.{ClassId}
use Rattle.dso_base.specs.declared.value.ClassId.TheVariants.{Plain, Array, Roots}
use Rattle.dso_base.specs.declared.value.Value.TheVariants as value
use Rattle.dso_base.specs.Block.{opening_value}
use Rattle.dso_base.specs.Shape.{fields_of, fields_at, guard_of, lock_of, kind_at, kind_of}
use Rattle.dso_plain.specs.After.{opening_field}
use Rattle.dso_plain.specs.Possible.{IsFieldCount, CanBeMade}
use Rattle.dso_plain.proofs.keys.SameKeys.{same_number}
use Rattle.dso_map.specs.Bodies.{MapBody}
use Rattle.dso_map.specs.Contents.{Holds}
use Rattle.dso_map.specs.Fields.{MapField, IsMapField, slots, place_of, field_kind, field_takes}
use Rattle.dso_map.specs.Fields.MapField.{Touched, Key, Held, Size}
use Rattle.dso_map.specs.MapClass.{map_fields, is_map, map_size}
use Rattle.dso_map.specs.SoundMap.{count, IsSoundMap}
use Rattle.dso_map.proofs.MapClass.{map_field_is}
use Rattle.dso_map.proofs.Sizes.{slots_are}
use Rattle.dso_machine.specs.MapCalls.{IsOfMaps}
use Rattle.dso_legal.specs.MapHistory.{no_content}

-- the fields of a new map: no slot touched, all keys 0, no values, the size 0
abbrev pub new_body : MapBody
new_body (Touched i) = value.Bool false
new_body (Key i) = value.Long (pos 0)
new_body (Held i) = value.Null
new_body Size = value.Long (pos 0)

none_full : (n : ℕ) → count new_body n ≡ 0
none_full zero = refl
none_full (suc n) = none_full n

fits : (f : MapField) → IsMapField f → field_takes f (new_body f) ≡ true
fits (Touched i) there = refl
fits (Key i) there = refl
fits (Held i) there = refl
fits Size there = refl

pub new_sound : IsSoundMap new_body
new_sound = record {
  kinds = fits;
  differ = λ i j i_less j_less is. absurd (cc is);
  paths = λ i less is. absurd (cc is);
  empty = λ i less is. refl;
  size = ap (λ n. value.Long (pos n)) (sym (none_full slots));
}

pub new_holds : Holds new_body no_content
new_holds = record { there = λ i less is. absurd (cc is); only = λ k none. refl }

-- the opening value of a field's kind
opens_so : (f : MapField) → opening_value (field_kind f) ≡ new_body f
opens_so (Touched i) = refl
opens_so (Key i) = refl
opens_so (Held i) = refl
opens_so Size = refl

-- a field's number is below the size of a map
pub place_below : (f : MapField) → IsMapField f → place_of f < map_size
place_below (Touched i) below = omega (arith, below, slots_are)
place_below (Key i) below = omega (arith, below, slots_are)
place_below (Held i) below = omega (arith, below, slots_are)
place_below Size below = omega arith

-- the class of maps has the fields of maps
abbrev pub MapsHaveFields : Shape → Type 0
MapsHaveFields shape = (n : ℕ) → is_map shape n ≡ true → fields_at shape n ≡ map_fields

module _ (shape : Shape) (have : MapsHaveFields shape) where
  -- The map's own monitor guards each field.
  pub own_guard : (class : ClassId) → IsOfMaps shape class → (o : ℕ) (f : MapField) → IsMapField f → guard_of shape class o (place_of f) ≡ Mon o
  own_guard (Plain n) is o f there = ap (λ fields. lock_of (slice_get fields (place_of f)) o) (have n is) ∙ ap (λ field. lock_of field o) (map_field_is f there)
  own_guard (Array k) is o f there = absurd is
  own_guard Roots is o f there = absurd is

  -- A new object of the class opens with the fields of a new map.
  pub opens_new : (n : ℕ) → is_map shape n ≡ true → (f : MapField) → IsMapField f → opening_value (kind_of shape (Plain n) (place_of f)) ≡ new_body f
  opens_new n is f there = ap (λ fields. opening_value (kind_at (slice_get fields (place_of f)))) (have n is) ∙ ap (λ field. opening_value (kind_at field)) (map_field_is f there) ∙ opens_so f

  -- the number of fields is that of the class
  count_is : (found : Option ClassShape) (size : ℕ) → IsFieldCount found size → size ≡ length (fields_of found)
  count_is None size is = absurd is
  count_is (Some class) size is = is

  pub new_heap : (n size : ℕ) → is_map shape n ≡ true → CanBeMade shape (Plain n) size → (f : MapField) → IsMapField f → opening_field shape (Plain n) size (place_of f) ≡ Some (new_body f)
  new_heap n size is can f there =
      let many : size ≡ map_size = count_is (slice_get shape.classes n) size can ∙ same_number (length (fields_at shape n)) map_size is in
      let below : ltb (place_of f) size ≡ true = lt-ltb (place_of f) size (subst (λ m. place_of f < m) (sym many) (place_below f there)) in
      ap (λ b. cond b (Some (opening_value (kind_of shape (Plain n) (place_of f)))) None) below ∙ ap Some (opens_new n is f there)

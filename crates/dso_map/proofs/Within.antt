-- What each call asks stays within a map's fields.
use Rattle.std.proofs.Common.{◌≡◌, ◌≢◌, refl, ℕ, ℤ, cond, zero, suc, ◌<◌, Bool, true, false, Option, None, Some}
use Rattle.dso_base.specs.declared.value.Value.{Value}
use Rattle.dso_base.specs.declared.value.Value.TheVariants as value
use Rattle.dso_map.specs.declared.map_op.MapOp.{MapOp}
use Rattle.dso_map.specs.declared.map_op.MapOp.TheVariants as op
use Rattle.dso_map.specs.Fields.{slots, field_takes}
use Rattle.dso_map.specs.Fields.MapField.{Held}
use Rattle.dso_map.specs.KeptMaps.{PutsObject}
use Rattle.dso_map.specs.Talk.{Talk, slot_of, key_of, is_true, is_null, is_long, more, less, either, resizes, fills, by_value, found, missing, wants_hole, hole_at, noting, along, talk}
use Rattle.dso_map.specs.Within.{StaysWithin}
use Rattle.dso_map.proofs.Paths.{slot_below}
use Rattle.dso_map.proofs.Calls.{ref_taken}

either_within : (t : Bool) (a b : Talk) → StaysWithin a → StaysWithin b → StaysWithin (either t a b)
either_within true a b first second = first
either_within false a b first second = second

more_within : StaysWithin (resizes more)
more_within = (tt, λ v. (tt, refl, tt))

less_within : StaysWithin (resizes less)
less_within = (tt, λ v. (tt, refl, tt))

fills_within : (i : ℕ) (k : ℤ) (o : ℕ) → i < slots → o ≢ 0 → StaysWithin (fills i k o)
fills_within i k o below real = (below, refl, (below, ref_taken i o real, more_within))

value_within : (call : MapOp) (i : ℕ) (v : Value) → PutsObject call → i < slots → StaysWithin (by_value call i v)
value_within (op.Get k) i v real below = tt
value_within (op.Has k) i v real below = tt
value_within op.Size i v real below = tt
value_within (op.Put k o) i v real below = (below, ref_taken i o real, either_within (is_null v) _ _ more_within tt)
value_within (op.Remove k) i v real below = either_within (is_null v) _ _ tt (below, refl, less_within)

-- a slot, where there is one, is one
abbrev IsSlot : Option ℕ → Type 0
IsSlot None = Unit {0}
IsSlot (Some i) = i < slots

missing_within : (call : MapOp) (end hole : Option ℕ) → PutsObject call → IsSlot end → IsSlot hole → StaysWithin (missing call end hole)
missing_within (op.Put k o) (Some i) hole real below also = (below, refl, fills_within i k o below real)
missing_within (op.Put k o) None (Some i) real below also = fills_within i k o also real
missing_within (op.Put k o) None None real below also = tt
missing_within (op.Get k) end hole real below also = tt
missing_within (op.Has k) end hole real below also = tt
missing_within (op.Remove k) end hole real below also = tt
missing_within op.Size end hole real below also = tt

hole_within : (i : ℕ) → i < slots → (t : Bool) → IsSlot (cond t (Some i) None)
hole_within i below true = below
hole_within i below false = tt

noting_within : (t : Bool) (i : ℕ) (hole : Option ℕ) (then : Option ℕ → Talk) → i < slots → IsSlot hole → ((next : Option ℕ) → IsSlot next → StaysWithin (then next)) → StaysWithin (noting t i hole then)
noting_within true i hole then below is all = (below, λ v. all (hole_at i v) (hole_within i below (is_null v)))
noting_within false i hole then below is all = all hole is

along_within : (call : MapOp) (left d : ℕ) (hole : Option ℕ) → PutsObject call → IsSlot hole → StaysWithin (along call left d hole)
along_within call zero d hole real is = missing_within call None hole real tt is
along_within call (suc left) d hole real is = (
  slot_below (key_of call) d,
  λ touched. either_within (is_true touched) _ _ (
    slot_below (key_of call) d,
    λ key. either_within (is_long (key_of call) key) _ _ (slot_below (key_of call) d, λ v. value_within call (slot_of (key_of call) d) v real (slot_below (key_of call) d))
        (noting_within (wants_hole call hole) (slot_of (key_of call) d) hole _ (slot_below (key_of call) d) is (λ next there. along_within call left (suc d) next real there)),
  )
      (missing_within call (Some (slot_of (key_of call) d)) hole real (slot_below (key_of call) d) is),
)

-- So does every call.
pub talk_within : (call : MapOp) → PutsObject call → StaysWithin (talk call)
talk_within (op.Get k) real = along_within (op.Get k) slots 0 None real tt
talk_within (op.Has k) real = along_within (op.Has k) slots 0 None real tt
talk_within op.Size real = (tt, λ v. tt)
talk_within (op.Put k o) real = along_within (op.Put k o) slots 0 None real tt
talk_within (op.Remove k) real = along_within (op.Remove k) slots 0 None real tt

-- When the fields of a map are sound.
use Rattle.std.specs.Prelude.{◌≡◌, ◌≤◌, ◌<◌, ℕ, zero, suc, Bool, true, false, not, ℤ, pos}
use Rattle.dso_base.specs.declared.value.Value.TheVariants as value
use Rattle.dso_map.specs.Bodies.{MapBody}
use Rattle.dso_map.specs.Fields.{MapField, IsMapField, slots, field_takes}
use Rattle.dso_map.specs.Fields.MapField.{Touched, Key, Held, Size}
use Rattle.dso_map.specs.Talk.{slot_of, is_true, is_null, long_of}

-- whether the slot was touched
abbrev pub touched : MapBody → ℕ → Bool
touched b i = is_true (b (Touched i))

-- the slot's key
abbrev pub key : MapBody → ℕ → ℤ
key b i = long_of (b (Key i))

-- one more, where it is so
abbrev pub one_more : Bool → ℕ → ℕ
one_more true n = suc n
one_more false n = n

-- how many of the first slots have a value
abbrev pub count : MapBody → ℕ → ℕ
count b zero = 0
count b (suc i) = one_more (not (is_null (b (Held i)))) (count b i)

-- the slot stands on the path of its key, and all slots on it up to there were touched
pub record IsReached (b : MapBody) (i : ℕ) : Type 0 where
  pub place : ℕ
  pub within : place < slots
  pub is : slot_of (key b i) place ≡ i
  pub up_to : (e : ℕ) → e ≤ place → touched b (slot_of (key b i) e) ≡ true

-- Sound: each field has a value of its kind, the keys of touched slots differ, each touched slot's path lies in
-- touched slots up to it, an untouched slot's value is null, and the size is the number of slots with a value.
pub record IsSoundMap (b : MapBody) : Type 0 where
  pub kinds : (f : MapField) → IsMapField f → field_takes f (b f) ≡ true
  pub differ : (i j : ℕ) → i < slots → j < slots → touched b i ≡ true → touched b j ≡ true → key b i ≡ key b j → i ≡ j
  pub paths : (i : ℕ) → i < slots → touched b i ≡ true → IsReached b i
  pub empty : (i : ℕ) → i < slots → touched b i ≡ false → b (Held i) ≡ value.Null
  pub size : b Size ≡ value.Long (pos (count b slots))

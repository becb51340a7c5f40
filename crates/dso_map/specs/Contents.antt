-- A finite map: when a body holds one, and what each call gives of it and leaves.
use Rattle.std.specs.Prelude.{◌≡◌, ◌≢◌, ◌<◌, ◌⊎◌, ◌↔◌, ℕ, true, false, cond, is_some}
use Rattle.std.specs.Prelude.{ℤ, pos, List, length, Contains, AllPairs, Option, None, Some}
use Rattle.std.specs.Ordering.{int_eq}
use Rattle.dso_base.specs.declared.value.Value.{Value}
use Rattle.dso_base.specs.declared.value.Value.TheVariants as value
use Rattle.dso_map.specs.declared.map_op.MapOp.{MapOp}
use Rattle.dso_map.specs.declared.map_op.MapOp.TheVariants as op
use Rattle.dso_map.specs.Bodies.{MapBody}
use Rattle.dso_map.specs.Fields.{slots}
use Rattle.dso_map.specs.Fields.MapField.{Held}
use Rattle.dso_map.specs.SoundMap.{touched, key, IsSoundMap}

-- what a map has: for each key a value, or none
abbrev pub Content : Type 0
Content = ℤ → Option Value

-- the value that is there, None for null
abbrev pub value_in : Value → Option Value
value_in value.Null = None
value_in v = Some v

-- The body holds the map: each touched slot its key with its value, and a key of no touched slot isn't there.
pub record Holds (b : MapBody) (m : Content) : Type 0 where
  pub there : (i : ℕ) → i < slots → touched b i ≡ true → m (key b i) ≡ value_in (b (Held i))
  pub only : (k : ℤ) → ((i : ℕ) → i < slots → touched b i ≡ true → key b i ≢ k) → m k ≡ None

-- the map has so many keys
pub record HasKeys (m : Content) (n : ℕ) : Type 0 where
  pub keys : List ℤ
  pub number : length keys ≡ n
  pub differ : AllPairs (λ k l. k ≢ l) keys
  pub are : (k : ℤ) → Contains keys k ↔ (m k ≢ None)

-- the same map
abbrev pub Same : Content → Content → Type 0
Same m n = (k : ℤ) → n k ≡ m k

-- A sound body holds one map, and no other.
abbrev pub SoundMapsHoldOne : Type 0
SoundMapsHoldOne = (b : MapBody) → IsSoundMap b → (m : Content) × Holds b m × ((n : Content) → Holds b n → Same m n)

-- the map with another value at one key, or with none there
abbrev pub with : ℤ → Option Value → Content → Content
with k v m = λ x. cond (int_eq k x) v (m x)

-- the value, null where there is none
abbrev pub or_null : Option Value → Value
or_null None = value.Null
or_null (Some v) = v

-- there is no room: the key is absent, and there are as many keys as slots
pub record IsFull (m : Content) (k : ℤ) : Type 0 where
  pub absent : m k ≡ None
  pub all : HasKeys m slots

-- there is room: the key is there, or there are fewer keys than slots
abbrev pub HasRoom : Content → ℤ → Type 0
HasRoom m k = (m k ≢ None) ⊎ ((n : ℕ) × HasKeys m n × (n < slots))

-- What a call gives of a map, and the map that it leaves.
abbrev pub Meets : MapOp → Value → Content → Content → Type 0
Meets (op.Get k) r m n = (r ≡ or_null (m k)) × Same m n
Meets (op.Has k) r m n = (r ≡ value.Bool (is_some (m k))) × Same m n
Meets op.Size r m n = ((c : ℕ) × HasKeys m c × (r ≡ value.Long (pos c))) × Same m n
Meets (op.Put k o) r m n = (IsFull m k × (r ≡ value.Bool false) × Same m n)
    ⊎ (HasRoom m k × (r ≡ value.Bool true) × Same (with k (Some (value.Ref o)) m) n)
Meets (op.Remove k) r m n = (r ≡ value.Bool (is_some (m k))) × Same (with k None m) n

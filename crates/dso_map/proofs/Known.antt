-- What a call of a map puts and ends with is an object that it was given, a value that it was told, or no object.
use Rattle.std.proofs.Common.{◌≡◌, refl, ◌⊎◌, inl, inr, ℕ, zero, suc, ℤ, Bool, true, false, not, Option, None, Some}
use Rattle.dso_base.specs.declared.value.Value.{Value}
use Rattle.dso_base.specs.declared.value.Value.TheVariants as value
use Rattle.dso_map.specs.declared.map_op.MapOp.{MapOp}
use Rattle.dso_map.specs.declared.map_op.MapOp.TheVariants as op
use Rattle.dso_map.specs.Fields.{slots}
use Rattle.dso_map.specs.Talk.{Talk, slot_of, key_of, is_true, is_null, is_long, more, less, either, resizes, fills, by_value, found, missing, wants_hole, hole_at, noting, along, talk}
use Rattle.dso_map.specs.Talk.Talk.{Gets, Puts, Ends}

-- the object is the one that the call puts
abbrev pub PutsIt : MapOp → ℕ → Type 0
PutsIt (op.Put k o) object = object ≡ o
PutsIt call object = ⊥

-- the value is the call's own: the object that it puts, or none and no text
abbrev pub IsOwn : MapOp → Value → Type 0
IsOwn call (value.Ref object) = PutsIt call object
IsOwn call (value.Text t) = ⊥
IsOwn call value.Null = Unit {0}
IsOwn call (value.Long n) = Unit {0}
IsOwn call (value.Bool b) = Unit {0}

-- The value is such a one, or this one.
abbrev pub OrTold : (Value → Type 0) → Value → Value → Type 0
OrTold P told v = (v ≡ told) ⊎ P v

-- What the talk puts, and what it ends with, is such a value, or one that it was told.
abbrev pub Tells : (Value → Type 0) → Talk → Type 0
Tells P (Gets f then) = (v : Value) → Tells (OrTold P v) (then v)
Tells P (Puts f v then) = P v × Tells P then
Tells P (Ends v) = P v

module _ (call : MapOp) where
  -- the call's own values are such
  abbrev pub HasOwn : (Value → Type 0) → Type 0
  HasOwn P = (v : Value) → IsOwn call v → P v

  -- so they are where more are
  own_too : (P : Value → Type 0) (told : Value) → HasOwn P → HasOwn (OrTold P told)
  own_too P told own v is = inr (own v is)

  either_tells : (P : Value → Type 0) (t : Bool) (a b : Talk) → Tells P a → Tells P b → Tells P (either t a b)
  either_tells P true a b first second = first
  either_tells P false a b first second = second

  more_tells : (P : Value → Type 0) → HasOwn P → Tells P (resizes more)
  more_tells P own = λ n. (inr (own (more n) tt), inr (own (value.Bool true) tt))

  less_tells : (P : Value → Type 0) → HasOwn P → Tells P (resizes less)
  less_tells P own = λ n. (inr (own (less n) tt), inr (own (value.Bool true) tt))

  fills_tells : (P : Value → Type 0) → HasOwn P → (i : ℕ) (k : ℤ) (o : ℕ) → PutsIt call o → Tells P (fills i k o)
  fills_tells P own i k o its = (own (value.Long k) tt, (own (value.Ref o) its, more_tells P own))

value_tells : (call : MapOp) (P : Value → Type 0) → HasOwn call P → (i : ℕ) (v : Value) → P v → Tells P (by_value call i v)
value_tells (op.Get k) P own i v is = is
value_tells (op.Has k) P own i v is = own (value.Bool (not (is_null v))) tt
value_tells op.Size P own i v is = is
value_tells (op.Put k o) P own i v is =
    (own (value.Ref o) refl, either_tells (op.Put k o) P (is_null v) _ _ (more_tells (op.Put k o) P own) (own (value.Bool true) tt))
value_tells (op.Remove k) P own i v is =
    either_tells (op.Remove k) P (is_null v) _ _ (own (value.Bool false) tt) (own value.Null tt, less_tells (op.Remove k) P own)

missing_tells : (call : MapOp) (P : Value → Type 0) → HasOwn call P → (end hole : Option ℕ) → Tells P (missing call end hole)
missing_tells (op.Put k o) P own (Some i) hole = (own (value.Bool true) tt, fills_tells (op.Put k o) P own i k o refl)
missing_tells (op.Put k o) P own None (Some i) = fills_tells (op.Put k o) P own i k o refl
missing_tells (op.Put k o) P own None None = own (value.Bool false) tt
missing_tells (op.Get k) P own end hole = own value.Null tt
missing_tells (op.Has k) P own end hole = own (value.Bool false) tt
missing_tells (op.Remove k) P own end hole = own (value.Bool false) tt
missing_tells op.Size P own end hole = own (value.Bool false) tt

noting_tells : (call : MapOp) (P : Value → Type 0) → HasOwn call P → (t : Bool) (i : ℕ) (hole : Option ℕ) (then : Option ℕ → Talk)
    → ((Q : Value → Type 0) → HasOwn call Q → (next : Option ℕ) → Tells Q (then next)) → Tells P (noting t i hole then)
noting_tells call P own true i hole then all = λ v. all (OrTold P v) (own_too call P v own) (hole_at i v)
noting_tells call P own false i hole then all = all P own hole

along_tells : (call : MapOp) (P : Value → Type 0) → HasOwn call P → (left d : ℕ) (hole : Option ℕ) → Tells P (along call left d hole)
along_tells call P own zero d hole = missing_tells call P own None hole
along_tells call P own (suc left) d hole = λ touched.
    let or_touched = OrTold P touched in
    let own_touched = own_too call P touched own in
    either_tells call or_touched (is_true touched) _ _
    (λ key.
    let or_key = OrTold or_touched key in
    let own_key = own_too call or_touched key own_touched in
    either_tells call or_key (is_long (key_of call) key) _ _
    (λ v. value_tells call (OrTold or_key v) (own_too call or_key v own_key) (slot_of (key_of call) d) v (inl refl))
    (noting_tells call or_key own_key (wants_hole call hole) (slot_of (key_of call) d) hole _ (λ Q its next. along_tells call Q its left (suc d) next)))
    (missing_tells call or_touched own_touched (Some (slot_of (key_of call) d)) hole)

-- What every call puts, and what it ends with, is its own or was told.
pub talk_tells : (call : MapOp) (P : Value → Type 0) → HasOwn call P → Tells P (talk call)
talk_tells (op.Get k) P own = along_tells (op.Get k) P own slots 0 None
talk_tells (op.Has k) P own = along_tells (op.Has k) P own slots 0 None
talk_tells op.Size P own = λ v. inl refl
talk_tells (op.Put k o) P own = along_tells (op.Put k o) P own slots 0 None
talk_tells (op.Remove k) P own = along_tells (op.Remove k) P own slots 0 None

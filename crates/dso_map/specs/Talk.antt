-- What a call of a map asks of the map's fields, one after the other, by the answers so far.
use Rattle.std.specs.Prelude.{ℕ, zero, suc, ◌+◌, ◌%◌, Bool, true, false, cond}
use Rattle.std.specs.Prelude.{not, ℤ, pos, ◌+ℤ◌, ◌-ℤ◌, Option, None, Some}
use Rattle.std.specs.Int.{int_wrap, int_rem_euclid}
use Rattle.std.specs.Int.RustNames.{unsigned_abs}
use Rattle.std.specs.Ordering.{int_eq}
use mir.Syntax.{w64}
use Rattle.dso_base.specs.declared.value.Value.{Value}
use Rattle.dso_base.specs.declared.value.Value.TheVariants as value
use Rattle.dso_map.specs.declared.map_op.MapOp.{MapOp}
use Rattle.dso_map.specs.declared.map_op.MapOp.TheVariants as op
use Rattle.dso_map.specs.Fields.{MapField, slots}
use Rattle.dso_map.specs.Fields.MapField.{Touched, Key, Held, Size}

-- What is still asked, and what comes of it: a field is read, and what follows goes by its value; a field is written;
-- or the call ends with a value.
pub data Talk : Type 0 where
  Gets : MapField → (Value → Talk) → Talk
  Puts : MapField → Value → Talk → Talk
  Ends : Value → Talk

-- ---- the path of a key

-- the key that a call looks for; 0 for the size, which looks for none
abbrev pub key_of : MapOp → ℤ
key_of (op.Get k) = k
key_of (op.Has k) = k
key_of (op.Put k o) = k
key_of (op.Remove k) = k
key_of op.Size = pos 0

-- the slot at which the path of a key begins
abbrev pub first_slot : ℤ → ℕ
first_slot k = unsigned_abs (int_rem_euclid k (pos slots))

-- the slot of a key's path behind so many others, round to the first
abbrev pub slot_of : ℤ → ℕ → ℕ
slot_of k d = (first_slot k + d) % slots

-- ---- values of fields

-- whether the value is true
abbrev pub is_true : Value → Bool
is_true (value.Bool b) = b
is_true v = false

-- whether the value is this long
abbrev pub is_long : ℤ → Value → Bool
is_long k (value.Long n) = int_eq n k
is_long k v = false

-- whether the value is null
abbrev pub is_null : Value → Bool
is_null value.Null = true
is_null v = false

-- the long that a value is
abbrev pub long_of : Value → ℤ
long_of (value.Long n) = n
long_of v = pos 0

-- one more, and one less, in 64 bits
abbrev pub more : Value → Value
more v = value.Long (int_wrap w64 (long_of v +ℤ pos 1))

abbrev pub less : Value → Value
less v = value.Long (int_wrap w64 (long_of v -ℤ pos 1))

-- ---- how a path ends

-- one way or the other
abbrev pub either : Bool → Talk → Talk → Talk
either true a b = a
either false a b = b

-- the size changes, and the call ends with true
abbrev pub resizes : (Value → Value) → Talk
resizes f = Gets Size (λ n. Puts Size (f n) (Ends (value.Bool true)))

-- a slot takes a key and a value that the map didn't have
abbrev pub fills : ℕ → ℤ → ℕ → Talk
fills i k o = Puts (Key i) (value.Long k) (Puts (Held i) (value.Ref o) (resizes more))

-- what follows by the value of the key's slot; the size has no key
abbrev pub by_value : MapOp → ℕ → Value → Talk
by_value (op.Get k) i v = Ends v
by_value (op.Has k) i v = Ends (value.Bool (not (is_null v)))
by_value (op.Put k o) i v = Puts (Held i) (value.Ref o) (either (is_null v) (resizes more) (Ends (value.Bool true)))
by_value (op.Remove k) i v = either (is_null v) (Ends (value.Bool false)) (Puts (Held i) value.Null (resizes less))
by_value op.Size i v = Ends v

-- the path ended at the slot of the key
abbrev pub found : MapOp → ℕ → Talk
found op i = Gets (Held i) (λ v. by_value op i v)

-- the path ended without the key: at a slot that wasn't touched, or after all; with the first slot on it that has no
-- value
abbrev pub missing : MapOp → Option ℕ → Option ℕ → Talk
missing (op.Put k o) (Some i) hole = Puts (Touched i) (value.Bool true) (fills i k o)
missing (op.Put k o) None (Some i) = fills i k o
missing (op.Put k o) None None = Ends (value.Bool false)
missing (op.Get k) end hole = Ends value.Null
missing op end hole = Ends (value.Bool false)

-- ---- the path

-- whether the call looks for a slot without a value on its way
abbrev pub wants_hole : MapOp → Option ℕ → Bool
wants_hole (op.Put k o) None = true
wants_hole op hole = false

-- the slot, where it has no value
abbrev pub hole_at : ℕ → Value → Option ℕ
hole_at i v = cond (is_null v) (Some i) None

-- the slot's value is asked where that is wanted, and then what follows by the hole
abbrev pub noting : Bool → ℕ → Option ℕ → (Option ℕ → Talk) → Talk
noting true i hole then = Gets (Held i) (λ v. then (hole_at i v))
noting false i hole then = then hole

-- The path of the call's key, of which so many slots are left behind so many others: it ends at the slot of the key,
-- at one that wasn't touched, or after all.
abbrev pub along : MapOp → ℕ → ℕ → Option ℕ → Talk
along op zero d hole = missing op None hole
along op (suc left) d hole = Gets (Touched (slot_of (key_of op) d)) (λ touched. either (is_true touched)
    (Gets (Key (slot_of (key_of op) d)) (λ key. either (is_long (key_of op) key) (found op (slot_of (key_of op) d))
    (noting (wants_hole op hole) (slot_of (key_of op) d) hole (λ next. along op left (suc d) next))))
    (missing op (Some (slot_of (key_of op) d)) hole))

-- what a call asks: the size alone, or along the path of its key
abbrev pub talk : MapOp → Talk
talk op.Size = Gets Size (λ v. Ends v)
talk op = along op slots 0 None

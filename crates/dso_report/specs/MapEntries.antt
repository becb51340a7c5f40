-- What is shown of a map: a key with its object for each slot that has one, by rising key, and then by slot.
use Rattle.std.specs.Prelude.{ℕ, zero, suc, ℤ, int_lt, Bool, false, eqb, Option, Some, None, List, [], insert}
use Rattle.std.specs.List.{position_or_len}
use Rattle.dso_base.specs.declared.value.ClassId.{ClassId}
use Rattle.dso_base.specs.declared.value.ClassId.TheVariants as class
use Rattle.dso_base.specs.declared.value.Value.{Value}
use Rattle.dso_base.specs.declared.value.Value.TheVariants as value
use Rattle.dso_map.specs.Fields.{slots, place_of}
use Rattle.dso_map.specs.Fields.MapField.{Key, Held}
use Rattle.dso_map.specs.MapClass.{map_size}
use Rattle.dso_plain.specs.State.{Object, PlainState}
use Rattle.dso_report.specs.declared.maps.MapEntry.{MapEntry}
use Rattle.dso_report.specs.Held.{number_in}

-- whether an object of this class and size is a map: one of a class of the program with a map's number of fields, which
-- no class of a text has
abbrev pub is_map_sized : ClassId → ℕ → Bool
is_map_sized (class.Plain c) size = eqb size map_size
is_map_sized other size = false

-- whether there is an object, and it is a map
abbrev pub is_map_there : Option Object → Bool
is_map_there None = false
is_map_there (Some object) = is_map_sized object.class object.size

-- an entry comes in front of the first with a greater key, and so behind those with the same
abbrev pub with_entry : MapEntry → List MapEntry → List MapEntry
with_entry entry entries = insert entries (position_or_len (λ other. int_lt entry.key other.key) entries) entry

-- a slot with a key has an entry where it holds an object
abbrev pub with_slot : ℤ → Option Value → List MapEntry → List MapEntry
with_slot key (Some (value.Ref object)) entries = with_entry (record { key = key; object = object }) entries
with_slot key held entries = entries

-- the entries of the first n slots
abbrev pub entries_below : PlainState → ℕ → ℕ → List MapEntry
entries_below s o zero = []
entries_below s o (suc n) = with_slot (number_in (s.heap (o, place_of (Key n)))) (s.heap (o, place_of (Held n)))
    (entries_below s o n)

-- the entries of a map: those of all its slots
abbrev pub map_entries : PlainState → ℕ → List MapEntry
map_entries s o = entries_below s o slots

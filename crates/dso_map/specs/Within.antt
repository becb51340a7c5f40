-- What a call asks stays within a map's fields.
use Rattle.std.specs.Prelude.{◌≡◌, ◌≢◌, true}
use Rattle.dso_base.specs.declared.value.Value.{Value}
use Rattle.dso_map.specs.declared.map_op.MapOp.{MapOp}
use Rattle.dso_map.specs.Fields.{IsMapField, field_takes}
use Rattle.dso_map.specs.KeptMaps.{PutsObject}
use Rattle.dso_map.specs.Talk.{Talk, talk}
use Rattle.dso_map.specs.Talk.Talk.{Gets, Puts, Ends}

-- whatever is answered, the talk asks for fields that a map has, and writes what they take
abbrev pub StaysWithin : Talk → Type 0
StaysWithin (Gets f then) = IsMapField f × ((v : Value) → StaysWithin (then v))
StaysWithin (Puts f v then) = IsMapField f × (field_takes f v ≡ true) × StaysWithin then
StaysWithin (Ends v) = Unit {0}

-- Each call stays within a map's fields, whatever it is answered.
abbrev pub CallsStayWithin : Type 0
CallsStayWithin = (op : MapOp) → PutsObject op → StaysWithin (talk op)

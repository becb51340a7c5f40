use Rattle.std.proofs.Common.{◌≡◌}
use Rattle.dso_map.specs.MapClass.{slot_fields}
use Rattle.dso_class.proofs.map_class.fields_of_maps.Given as goal

abbrev pub invariant-loop : goal.invariant-loop
invariant-loop l = l.fields ≡ slot_fields l.counter

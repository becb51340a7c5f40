use Rattle.std.specs.List.{flat_map}
use Rattle.std.proofs.Common.{◌≡◌, map}
use Rattle.dso_law.specs.Settings.{up_to}
use Rattle.dso_legal.specs.Slots.{client_slots}
use Rattle.dso_world.specs.StepPlaces.{AreOwnOf}
use Rattle.dso_world.specs.WorldSteps.{settings_of, slot_of}
use Rattle.dso_world.proofs.opening.own_steps.Given as goal

abbrev pub invariant-loop-number : goal.invariant-loop-number
invariant-loop-number l = record {
  listed : map slot_of l.steps.items ≡ flat_map (client_slots (settings_of l.program)) (up_to l.number);
  own : AreOwnOf (settings_of l.program) l.number l.own.items;
}

-- Whether a step can be made, and what a world is once it was.
use Rattle.std.specs.List.{list_any, position}
use Rattle.std.specs.Option.{option_and_then, option_map_or}
use Rattle.std.proofs.Common.{ℕ, ◌≡◌, sym, ◌∙◌, ap, Bool, true, false, Option, Some, List, filter, slice_get}
use Rattle.dso_base.specs.declared.journal.Entry.{Entry}
use Rattle.dso_class.specs.declared.program.Program.{Program}
use Rattle.dso_legal.specs.Slots.{is_open, slots}
use Rattle.dso_machine.specs.Next.{next_request}
use Rattle.dso_world.specs.declared.open_steps.OpenSteps.{OpenSteps}
use Rattle.dso_world.specs.declared.step.Step.{Step}
use Rattle.dso_world.specs.ChosenSlot.{is_slot}
use Rattle.dso_world.specs.Flags.{is_set}
use Rattle.dso_world.specs.ClientSteps.{IsOpenAfter}
use Rattle.dso_world.specs.WorldSteps.{settings_of, slot_of}
use Rattle.dso_world.specs.WorldStands.{OpenStepsStand}
use Rattle.dso_world.proofs.places.Found.{found, place_of_told, stands_there}
use Rattle.dso_world.proofs.places.Marking.{told_place}

-- the place of the step among the open steps's
abbrev pub place_in : Step → OpenSteps → Option ℕ
place_in step open_steps = position (λ other. is_slot (slot_of step) (slot_of other)) open_steps.steps

-- whether its flag is set
abbrev pub flag_in : Step → OpenSteps → Bool
flag_in step open_steps = option_map_or is_set (option_and_then (slice_get open_steps.chooser.flags) (place_in step open_steps)) false

module _ (program : Program) (step : Step) (open_steps : OpenSteps) (es : List Entry) (stands : OpenStepsStand program open_steps es) where
  -- its place is that of its slot
  place_told : place_in step open_steps ≡ position (is_slot (slot_of step)) (slots (settings_of program))
  place_told = place_of_told slot_of (is_slot (slot_of step)) open_steps.steps ∙ ap (position (is_slot (slot_of step))) stands.steps

  -- a step is open exactly where its flag is set
  pub open_told : list_any (is_slot (slot_of step)) (filter (is_open (settings_of program) (next_request program.code) es) (slots (settings_of program))) ≡ flag_in step open_steps
  open_told = found (is_open (settings_of program) (next_request program.code) es) (slot_of step) (slots (settings_of program))
      ∙ ap (λ flags. option_map_or is_set (option_and_then (slice_get flags) (position (is_slot (slot_of step)) (slots (settings_of program)))) false) (sym stands.row.flags)
      ∙ ap (λ place. option_map_or is_set (option_and_then (slice_get open_steps.chooser.flags) place) false) (sym place_told)

  -- its slot stands at its place
  pub slot_stands : (place : ℕ) → place_in step open_steps ≡ Some place → slice_get (slots (settings_of program)) place ≡ Some (slot_of step)
  slot_stands place is = stands_there (slot_of step) (slots (settings_of program)) place (sym place_told ∙ is)

  -- and is open where the flag there is set
  pub opens_there : (place : ℕ) → place_in step open_steps ≡ Some place → slice_get open_steps.chooser.flags place ≡ Some true → IsOpenAfter program es (slot_of step)
  opens_there place is set =
      let told = sym (told_place (is_open (settings_of program) (next_request program.code) es) (slots (settings_of program)) place (slot_of step) (slot_stands place is))
      ∙ ap (λ flags. slice_get flags place) (sym stands.row.flags) ∙ set in
      cc told

-- The step at the chosen place is that of the chosen slot.
use Rattle.std.proofs.Common.{ℕ, zero, suc, ◌<◌, ◌≡◌, IfSome, refl, sym, ◌∙◌, ap, Option, Some, None, List, [], ◌∷◌, length, map, option_and_then, option_map, slice_get, arith}
use Rattle.std.proofs.lemmas.List.{length-map}
use Rattle.dso_class.specs.declared.program.Program.{Program}
use Rattle.dso_legal.specs.Slots.{is_open, slots}
use Rattle.dso_machine.specs.Next.{next_request}
use Rattle.dso_world.specs.declared.world.World.{World}
use Rattle.dso_world.specs.Flags.{chosen_place}
use Rattle.dso_world.specs.Laws.{IsChosen}
use Rattle.dso_world.specs.WorldSteps.{settings_of, slot_of}
use Rattle.dso_world.specs.WorldStands.{OpenStepsStand, IsChosenStep, entries_in}
use Rattle.dso_world.proofs.flags.Chosen.{places_are_chosen}

-- what stands at a place of a list is told at that place, and none where there is none
told_at : {A B : Type 0} (f : A → B) (xs : List A) (place : ℕ) → option_map f (slice_get xs place) ≡ slice_get (map f xs) place
told_at f [] place = refl
told_at f (x ∷ xs) zero = refl
told_at f (x ∷ xs) (suc place) = told_at f xs place

told_where : {A B : Type 0} (f : A → B) (xs : List A) (place : Option ℕ) → option_map f (option_and_then (slice_get xs) place) ≡ option_and_then (slice_get (map f xs)) place
told_where f xs None = refl
told_where f xs (Some place) = told_at f xs place

-- a list has something at each place within it
is_there : {A : Type 0} (xs : List A) (place : ℕ) → place < length xs → slice_get xs place ≡ None → ⊥
is_there [] place within none = omega (arith, within)
is_there (x ∷ xs) zero within none = cc none
is_there (x ∷ xs) (suc place) within none = is_there xs place (omega (arith, within)) none

module _ (program : Program) (seed : Option ℕ) (world : World) (stands : OpenStepsStand program world.open_steps (entries_in world))
    (within : IfSome (chosen_place seed world.open_steps.chooser) (λ place. place < length world.open_steps.chooser.flags)) where
  law : IsChosen (settings_of program) (next_request program.code) seed world.open_steps.chooser (entries_in world)
  law = places_are_chosen (settings_of program) (next_request program.code) world.open_steps.chooser (entries_in world) stands.row seed

  -- there are as many flags as steps
  many : length world.open_steps.chooser.flags ≡ length world.open_steps.steps
  many = ap length stands.row.flags ∙ length-map (slots (settings_of program)) (is_open (settings_of program) (next_request program.code) (entries_in world))
      ∙ ap length (sym stands.steps) ∙ length-map world.open_steps.steps slot_of

  -- no step is chosen where no place is
  no_place : (place : Option ℕ) → IfSome place (λ place. place < length world.open_steps.chooser.flags) → option_and_then (slice_get world.open_steps.steps) place ≡ None → place ≡ None
  no_place None there none = refl
  no_place (Some place) there none = absurd (is_there world.open_steps.steps place (omega (arith, there, many)) none)

  pub chosen_step : IsChosenStep program seed (option_and_then (slice_get world.open_steps.steps) (chosen_place seed world.open_steps.chooser)) world
  chosen_step = record {
    slot = told_where slot_of world.open_steps.steps (chosen_place seed world.open_steps.chooser)
        ∙ ap (λ list. option_and_then (slice_get list) (chosen_place seed world.open_steps.chooser)) stands.steps ∙ law.slot;
    none = (
      λ none. law.none.0 (no_place (chosen_place seed world.open_steps.chooser) within none),
      λ none. ap (option_and_then (slice_get world.open_steps.steps)) (law.none.1 none),
    );
  }

use Rattle.std.specs.List.{flat_map}
use Rattle.std.proofs.Common.{◌≡◌, ◌++◌, [], ◌∷◌, map}
use Rattle.dso_law.specs.Settings.{up_to}
use Rattle.dso_legal.specs.Slots.{TakesUp, Loses, Breaks}
use Rattle.dso_world.specs.WorldSteps.{slot_of}
use Rattle.dso_world.proofs.opening.steps.Given as goal

abbrev pub invariant-loop-number : goal.invariant-loop-number
invariant-loop-number l = map slot_of l.steps.items ≡ map slot_of l.initial.steps.items ++ map TakesUp (up_to l.number)

abbrev pub invariant-loop-number-2 : goal.invariant-loop-number-2
invariant-loop-number-2 l = map slot_of l.steps.items ≡ map slot_of l.initial.steps.items ++ flat_map (λ c. Loses c ∷ Breaks c ∷ []) (up_to l.number)

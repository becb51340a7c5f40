use Rattle.std.proofs.Common.{◌≡◌, ◌++◌, eqb, filter, map, take}
use Rattle.dso_legal.specs.Slots.{Acts}
use Rattle.dso_world.specs.WorldSteps.{slot_of}
use Rattle.dso_world.proofs.opening.add_own.Given as goal

abbrev pub invariant-loop-thread : goal.invariant-loop-thread
invariant-loop-thread l = map slot_of l.steps.items ≡ map slot_of l.initial.steps.items ++ map Acts (filter (λ t. eqb t.client l.fn.number) (take l.thread-index l.program.threads))

use Rattle.std.proofs.Common.{◌≡◌, ◌++◌, false, [], drop, map, take}
use Rattle.dso_legal.specs.Slots.{is_open}
use Rattle.dso_machine.specs.Next.{next_request}
use Rattle.dso_world.specs.WorldSteps.{settings_of, slot_of}
use Rattle.dso_world.proofs.opening.open_steps.Given as goal

abbrev pub invariant-loop-place : goal.invariant-loop-place
invariant-loop-place l = l.chooser ≡ record {
  flags = map (λ step. is_open (settings_of l.program) (next_request l.program.code) [] (slot_of step)) (take l.place l.all) ++ map (λ step. false) (drop l.place l.all);
  begin = 0;
  entries = 0;
}

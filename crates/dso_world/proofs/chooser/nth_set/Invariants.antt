use Rattle.std.proofs.Common.{◌≡◌, ◌+◌, drop, option_map}
use Rattle.dso_world.specs.Flags.{nth_set}
use Rattle.dso_world.proofs.chooser.nth_set.Given as goal

abbrev pub invariant-loop-place : goal.invariant-loop-place
invariant-loop-place l = nth_set l.number l.flags ≡ option_map (λ i. l.place + i) (nth_set l.left (drop l.place l.flags))

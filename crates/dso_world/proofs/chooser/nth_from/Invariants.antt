use Rattle.std.proofs.Common.{◌≡◌, ◌+◌, ◌*◌, drop, option_map}
use Rattle.dso_world.specs.Flags.{nth_set}
use Rattle.dso_world.proofs.chooser.nth_from.Given as goal

abbrev pub invariant-loop-block : goal.invariant-loop-block
invariant-loop-block l = option_map (λ i. 64 * l.from + i) (nth_set l.number (drop (64 * l.from) l.flags)) ≡ option_map (λ i. 64 * l.block + i) (nth_set l.left (drop (64 * l.block) l.flags))

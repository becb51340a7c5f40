use Rattle.std.proofs.Common.{◌≡◌, ◌+◌, length}
use Rattle.std.specs.List.{position_or_len}
use Rattle.dso_config.specs.Spelling.{is_dot}
use Rattle.dso_config.proofs.spelling.dot_place.Given as goal

-- what was counted and what still stands make the whole
abbrev pub invariant-loop-text : goal.invariant-loop-text
invariant-loop-text l =
    (l.count + position_or_len is_dot l.text ≡ position_or_len is_dot l.initial.text)
    × (l.count + length l.text ≡ length l.initial.text)

abbrev pub decreases-loop-text : goal.decreases-loop-text
decreases-loop-text l = length l.text

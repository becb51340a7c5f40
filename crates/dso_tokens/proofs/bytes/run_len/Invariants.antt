use Rattle.std.proofs.Common.{◌≡◌, ◌+◌, length}
use Rattle.std.specs.List.{prefix_len}
use Rattle.dso_tokens.specs.ByteClasses.{is_in}
use Rattle.dso_tokens.proofs.bytes.run_len.Given as goal

-- what was counted and what still stands at the front is the whole run
abbrev pub invariant-loop-text : goal.invariant-loop-text
invariant-loop-text l =
    (l.count + prefix_len (is_in l.class) l.text ≡ prefix_len (is_in l.class) l.initial.text)
    × (l.count + length l.text ≡ length l.initial.text)

abbrev pub decreases-loop-text : goal.decreases-loop-text
decreases-loop-text l = length l.text

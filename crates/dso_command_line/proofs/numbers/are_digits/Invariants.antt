use Rattle.std.proofs.Common.{◌≡◌, drop}
use Rattle.std.specs.Str.{all_ascii_digits}
use Rattle.dso_command_line.proofs.numbers.are_digits.Given as goal

-- the bytes so far are digits
abbrev pub invariant-loop-b : goal.invariant-loop-b
invariant-loop-b l = all_ascii_digits l.word ≡ all_ascii_digits (drop l.b-index l.word)

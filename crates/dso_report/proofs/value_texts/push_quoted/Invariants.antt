use Rattle.std.proofs.Common.{◌≡◌, ◌++◌, take}
use Rattle.std.specs.Prelude.{codes, flat_map}
use Rattle.dso_report.specs.Texts.{escaped}
use Rattle.dso_report.proofs.value_texts.push_quoted.Given as goal

abbrev pub invariant-loop-byte : goal.invariant-loop-byte
invariant-loop-byte l = l.text.items ≡ (l.fn.text.items ++ codes "\"") ++ flat_map escaped (take l.byte-index l.literal)

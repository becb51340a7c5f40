use Rattle.std.proofs.Common.{take}
use Rattle.dso_lint.specs.Marked.{MarksMore}
use Rattle.dso_lint.proofs.calling.MarkSteps.{OfAny, IsNumber}
use Rattle.dso_lint.proofs.marks.Marks.add_each.Given as goal

abbrev pub invariant-loop-number : goal.invariant-loop-number
invariant-loop-number l = MarksMore (OfAny IsNumber (take l.number-index l.numbers)) l.initial.self l.self

use Rattle.std.proofs.Common.{take}
use Rattle.dso_lint.specs.Marked.{MarksMore}
use Rattle.dso_lint.proofs.calling.MarkSteps.{OfAny, CallsBy}
use Rattle.dso_lint.proofs.marks.Marks.add_calls.Given as goal

abbrev pub invariant-loop-e : goal.invariant-loop-e
invariant-loop-e l = MarksMore (OfAny (CallsBy l.row) (take l.e-index l.expressions)) l.initial.self l.self

use Rattle.std.proofs.Common.{take}
use Rattle.dso_lint.specs.Marked.{MarksMore}
use Rattle.dso_lint.proofs.calling.MarkSteps.{OfAny, IsOf}
use Rattle.dso_lint.proofs.marks.Marks.add_all.Given as goal

abbrev pub invariant-loop-callee : goal.invariant-loop-callee
invariant-loop-callee l = MarksMore (OfAny IsOf (take l.callee-index l.callees)) l.initial.self l.self

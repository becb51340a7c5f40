use Rattle.dso_lint.proofs.calling.CallerSteps.{CallersSoFar}
use Rattle.dso_lint.proofs.callers.add_callers.Given as goal

abbrev pub invariant-loop-called : goal.invariant-loop-called
invariant-loop-called l = CallersSoFar l.number l.marks.marked.items l.called l.initial.callers.items l.callers.items

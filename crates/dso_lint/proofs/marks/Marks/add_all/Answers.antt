use Rattle.std.proofs.Common.{subst}
use Rattle.std.proofs.lemmas.List.{take_all}
use Rattle.dso_lint.specs.Marked.{MarksMore}
use Rattle.dso_lint.proofs.calling.MarkSteps.{OfAny, IsOf, marks_of_more, marks_callees}
use Rattle.dso_lint.proofs.marks.Marks.add_all.Goals as goal

pub loop-callee-preserved : goal.loop-callee-preserved
loop-callee-preserved c =
    marks_of_more IsOf c.args.callees.now c.loop-callee.callee-index (0, 0) c.loop-callee-test.true c.args.self.now c.loop-callee.self c.add.new.self c.loop-callee.invariant c.in_ok-add.ensures

pub returns : goal.returns
returns c =
    marks_callees c.args.callees.now c.args.self.now c.loop-callee.self
    (subst (λ all. MarksMore (OfAny IsOf all) c.args.self.now c.loop-callee.self) (take_all c.loop-callee.callee-index c.args.callees.now c.loop-callee-test.false) c.loop-callee.invariant)

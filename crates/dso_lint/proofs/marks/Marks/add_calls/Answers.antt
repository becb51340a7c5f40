use Rattle.std.proofs.Common.{subst}
use Rattle.std.proofs.lemmas.List.{take_all}
use Rattle.dso_lint.specs.Marked.{MarksMore}
use Rattle.dso_lint.proofs.calling.MarkSteps.{OfAny, CallsBy, marks_of_more, marks_calls}
use Rattle.dso_lint.proofs.marks.Marks.add_calls.Goals as goal

pub loop-e-preserved : goal.loop-e-preserved
loop-e-preserved c =
    marks_of_more (CallsBy c.args.row) c.args.expressions.now c.loop-e.e-index c.e-item.result c.loop-e-test.true c.args.self.now c.loop-e.self c.add_call.new.self c.loop-e.invariant
    (subst (λ e. MarksMore (CallsBy c.args.row e) c.loop-e.self c.add_call.new.self) c.e-item.is c.in_ok-add_call.ensures)

pub returns : goal.returns
returns c block lists =
    marks_calls c.args.row block c.args.expressions.now c.args.self.now c.loop-e.self lists
    (subst (λ all. MarksMore (OfAny (CallsBy c.args.row) all) c.args.self.now c.loop-e.self) (take_all c.loop-e.e-index c.args.expressions.now c.loop-e-test.false) c.loop-e.invariant)

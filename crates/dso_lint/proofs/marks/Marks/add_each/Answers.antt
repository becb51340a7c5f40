use Rattle.std.proofs.Common.{subst}
use Rattle.std.proofs.lemmas.List.{take_all}
use Rattle.dso_lint.specs.Marked.{MarksMore}
use Rattle.dso_lint.proofs.calling.MarkSteps.{OfAny, IsNumber, marks_of_more, marks_numbers}
use Rattle.dso_lint.proofs.marks.Marks.add_each.Goals as goal

pub loop-number-preserved : goal.loop-number-preserved
loop-number-preserved c =
    marks_of_more IsNumber c.args.numbers.now c.loop-number.number-index 0 c.loop-number-test.true c.args.self.now c.loop-number.self c.add.new.self c.loop-number.invariant c.in_ok-add.ensures

pub returns : goal.returns
returns c =
    marks_numbers c.args.numbers.now c.args.self.now c.loop-number.self
    (subst (λ all. MarksMore (OfAny IsNumber all) c.args.self.now c.loop-number.self) (take_all c.loop-number.number-index c.args.numbers.now c.loop-number-test.false) c.loop-number.invariant)

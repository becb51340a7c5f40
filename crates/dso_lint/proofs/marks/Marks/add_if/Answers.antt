use Rattle.std.proofs.lemmas.Result.{on_ok_weaker}
use Rattle.dso_lint.proofs.calling.MarkSteps.{marks_unwanted, marks_wanted}
use Rattle.dso_lint.proofs.marks.Marks.add_if.Goals as goal

pub returns-then-not-wanted : goal.returns-then-not-wanted
returns-then-not-wanted c = marks_unwanted c.args.number c.args.wanted c.args.self.now c.if-not-wanted.true

pub returns : goal.returns
returns c = on_ok_weaker c.add.result (λ more. marks_wanted c.args.number c.args.wanted c.args.self.now c.add.new.self c.if-not-wanted.false more) c.add.ensures

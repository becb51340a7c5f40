use Rattle.std.proofs.Common.{rules}
use Rattle.std.proofs.lemmas.Result.{on_ok_weaker}
use Rattle.dso_lint.specs.Marked.{Counts}
use Rattle.dso_lint.proofs.calling.MarkSteps.{marks_counted}
use Rattle.dso_lint.proofs.marks.Marks.add_counted.Goals as goal

pub returns : goal.returns
returns c =
    let counted : Counts c.args.row c.args.receiver.now = search (rules, c.counts.ensures) in
    on_ok_weaker c.add_all.result (λ marked. marks_counted c.args.row c.args.receiver.now c.args.callees.now c.args.self.now c.add_all.new.self counted marked) c.add_all.ensures

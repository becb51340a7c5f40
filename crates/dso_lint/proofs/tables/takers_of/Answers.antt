use Rattle.std.proofs.Common.{length}
use Rattle.std.proofs.lemmas.Result.{IfOk-weaker}
use Rattle.dso_lint.specs.Leads.{AreLeading, Within}
use Rattle.dso_lint.specs.Tables.{AreTakers}
use Rattle.dso_lint.specs.Upgrading.{TakesName}
use Rattle.dso_lint.proofs.upgrading.Begun.{begun_callers, begun_fits, begun_table}
use Rattle.dso_lint.proofs.upgrading.Writers.{taker_low}
use Rattle.dso_lint.proofs.tables.takers_of.Goals as goal

pub returns : goal.returns
returns c code listed same are =
    let marks = c.in_ok-marks.marks in
    let methods = c.args.methods in
    let so = c.in_ok-marks.ensures code listed same in
    IfOk-weaker c.leading.result (λ marked. AreLeading code (Within marks.marked.items) (length marks.marked.items) marked.items) (λ marked. AreTakers code c.args.lock marked.items)
    (λ marked is. begun_table code (TakesName code c.args.lock) methods marks same so marked.items (taker_low code c.args.lock) is)
    (c.leading.ensures code (begun_callers code (TakesName code c.args.lock) methods marks same so c.args.callers.now are) (begun_fits code (TakesName code c.args.lock) methods marks same so) so.tidy)

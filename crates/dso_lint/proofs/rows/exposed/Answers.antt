use Rattle.std.proofs.Common.{sym, subst}
use Rattle.dso_lint.specs.Lists.{Lists}
use Rattle.dso_lint.specs.Trees.{Uses}
use Rattle.dso_lint.proofs.cleanness.ExposedSteps.{exposed_all}
use Rattle.dso_lint.proofs.rows.exposed.Goals as goal

pub returns : goal.returns
returns c routine is =
    let lists : Lists (Uses routine.statements) c.as_slice.result.now = subst (Lists (Uses routine.statements)) (sym c.as_slice.ensures.value) is.expressions in
    exposed_all routine c.args.row c.args.methods c.in_ok-marks.marks c.add_calls.new.self c.in_ok-marks.ensures (c.in_ok-add_calls.ensures routine.statements lists)

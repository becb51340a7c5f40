use Rattle.std.proofs.Common.{◌+◌, arith}
use Rattle.dso_lint.specs.Upgrading.{TakesName}
use Rattle.dso_lint.proofs.upgrading.Begun.{begins_less, begins_next, begins_none}
use Rattle.dso_lint.proofs.tables.takers.Goals as goal

pub loop-number-init : goal.loop-number-init
loop-number-init c code listed same = begins_none (TakesName code c.args.lock) (c.args.methods + 5) c.in_ok-marks.marks c.in_ok-marks.ensures

pub loop-number-preserved : goal.loop-number-preserved
loop-number-preserved c code listed same =
    begins_next (TakesName code c.args.lock) (c.args.methods + 5) c.loop-number.number c.takes_name.result c.loop-number.marks c.add_if.new.self (c.takes_name.ensures code listed same) c.in_ok-add_if.ensures (c.loop-number.invariant code listed same)

pub returns : goal.returns
returns c code listed same =
    let size = c.args.methods + 5 in
    begins_less (TakesName code c.args.lock) size c.loop-number.number size c.loop-number.marks (omega (arith, c.loop-number-test.false)) (c.loop-number.invariant code listed same)

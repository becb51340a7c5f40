use Rattle.std.proofs.Common.{arith}
use Rattle.dso_host.proofs.hosts.Journals.{all_weighed}
use Rattle.dso_host.proofs.cells.Cells.weight.Goals as goal

pub returns : goal.returns
returns c =
    let past = c.loop-cell-test.false in
    all_weighed c.args.self.now c.deref-cell-items.result.now c.loop-cell.cell-index c.loop-cell.sum c.deref-cell-items.ensures.value (omega (arith, past)) c.loop-cell.invariant

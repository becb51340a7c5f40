use Rattle.dso_lint.proofs.cleanness.RowSteps.{settled_more}
use Rattle.dso_lint.proofs.narrow.settle.Goals as goal

pub loop-changed-preserved : goal.loop-changed-preserved
loop-changed-preserved c =
    settled_more c.args.statements.now c.args.row.now c.loop-changed.row c.narrow-changed.new.row c.loop-changed.changed c.narrow-changed.result c.loop-changed.invariant c.narrow-changed.ensures.shrinks c.narrow-changed.ensures.right

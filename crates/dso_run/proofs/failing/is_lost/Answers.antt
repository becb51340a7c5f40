use Rattle.dso_run.proofs.runs.Failures.{lost}
use Rattle.dso_run.proofs.failing.is_lost.Goals as goal

pub loop-entry-init : goal.loop-entry-init
loop-entry-init c = lost c.args.client c.args.entries.now

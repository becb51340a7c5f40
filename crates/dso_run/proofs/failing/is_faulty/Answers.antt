use Rattle.dso_run.proofs.runs.Failures.{faulty}
use Rattle.dso_run.proofs.failing.is_faulty.Goals as goal

pub loop-entry-init : goal.loop-entry-init
loop-entry-init c = faulty c.args.threads.now c.args.entries.now

use Rattle.dso_run.proofs.Completing.{may_run}
use Rattle.dso_run.proofs.laws.calls_that_may_run_do.Goals as goal

pub returns : goal.returns
returns c = may_run

use Rattle.dso_legal.proofs.examples.crossed_timeout.Goals as goal
use Rattle.dso_legal.proofs.journals.Runs.{crossed_timeout_runs}

pub returns : goal.returns
returns c = crossed_timeout_runs

use Rattle.dso_legal.proofs.examples.lost_waiters.Goals as goal
use Rattle.dso_legal.proofs.journals.Runs.{lost_waiters_runs}

pub returns : goal.returns
returns c = lost_waiters_runs

use Rattle.dso_legal.proofs.examples.settled_then_lost.Goals as goal
use Rattle.dso_legal.proofs.journals.Runs.{settled_then_lost_runs}

pub returns : goal.returns
returns c = settled_then_lost_runs

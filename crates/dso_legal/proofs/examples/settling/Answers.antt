use Rattle.dso_legal.proofs.examples.settling.Goals as goal
use Rattle.dso_legal.proofs.journals.Runs.{settling_runs}

pub returns : goal.returns
returns c = settling_runs

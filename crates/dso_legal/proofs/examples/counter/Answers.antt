use Rattle.dso_legal.proofs.examples.counter.Goals as goal
use Rattle.dso_legal.proofs.journals.Runs.{counter_runs}

pub returns : goal.returns
returns c = counter_runs

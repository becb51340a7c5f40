use Rattle.dso_legal.proofs.examples.broken.Goals as goal
use Rattle.dso_legal.proofs.journals.Runs.{broken_runs}

pub returns : goal.returns
returns c = broken_runs

use Rattle.dso_legal.proofs.examples.waiting.Goals as goal
use Rattle.dso_legal.proofs.journals.Runs.{waiting_runs}

pub returns : goal.returns
returns c = waiting_runs

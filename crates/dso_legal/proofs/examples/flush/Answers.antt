use Rattle.dso_legal.proofs.examples.flush.Goals as goal
use Rattle.dso_legal.proofs.journals.Runs.{flush_runs}

pub returns : goal.returns
returns c = flush_runs

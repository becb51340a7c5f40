use Rattle.dso_legal.proofs.examples.recall.Goals as goal
use Rattle.dso_legal.proofs.journals.Runs.{recall_runs}

pub returns : goal.returns
returns c = recall_runs

use Rattle.dso_legal.proofs.examples.lost_client.Goals as goal
use Rattle.dso_legal.proofs.journals.Runs.{lost_client_runs}

pub returns : goal.returns
returns c = lost_client_runs

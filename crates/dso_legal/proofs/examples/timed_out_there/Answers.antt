use Rattle.dso_legal.proofs.examples.timed_out_there.Goals as goal
use Rattle.dso_legal.proofs.journals.Runs.{timed_out_there_runs}

pub returns : goal.returns
returns c = timed_out_there_runs

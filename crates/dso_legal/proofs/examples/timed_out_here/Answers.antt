use Rattle.dso_legal.proofs.examples.timed_out_here.Goals as goal
use Rattle.dso_legal.proofs.journals.Runs.{timed_out_here_runs}

pub returns : goal.returns
returns c = timed_out_here_runs

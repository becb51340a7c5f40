use Rattle.dso_legal.proofs.run_laws.ids.Goals as goal
use Rattle.dso_legal.proofs.runs.IdsInRuns.{ids_rise_in_runs}

pub returns : goal.returns
returns c = ids_rise_in_runs

use Rattle.dso_law.proofs.run_laws.ids.Goals as goal
use Rattle.dso_law.proofs.runs.IdsTaken.{ids_run_out}
use Rattle.dso_law.proofs.runs.IdsGoOn.{ids_ahead_go_on}

pub returns-clause-taken : goal.returns-clause-taken
returns-clause-taken c = ids_run_out

pub returns-clause-ahead : goal.returns-clause-ahead
returns-clause-ahead c = ids_ahead_go_on

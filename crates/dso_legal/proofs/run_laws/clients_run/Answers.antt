use Rattle.dso_legal.proofs.run_laws.clients_run.Goals as goal
use Rattle.dso_legal.proofs.runs.ClientsRun.{clients_run}

pub returns : goal.returns
returns c = clients_run

use Rattle.dso_law.proofs.run_laws.own_requests.Goals as goal
use Rattle.dso_law.proofs.runs.OwnRequests.{own_requests}

pub returns : goal.returns
returns c = own_requests

use Rattle.dso_legal.proofs.laws.clients_stand.Goals as goal
use Rattle.dso_legal.proofs.central.CentralLaw.{clients_stand}

pub returns : goal.returns
returns c = clients_stand

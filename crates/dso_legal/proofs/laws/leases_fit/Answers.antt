use Rattle.dso_legal.proofs.laws.leases_fit.Goals as goal
use Rattle.dso_legal.proofs.leases.Tokens.{leases_fit}

pub returns : goal.returns
returns c = leases_fit

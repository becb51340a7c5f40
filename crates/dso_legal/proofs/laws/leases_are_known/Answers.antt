use Rattle.dso_legal.proofs.laws.leases_are_known.Goals as goal
use Rattle.dso_legal.proofs.leases.HoldsApart.{leases_are_known}

pub returns : goal.returns
returns c = leases_are_known

use Rattle.dso_legal.proofs.laws.leases_are_compatible.Goals as goal
use Rattle.dso_legal.proofs.leases.LeasesCompatible.{leases_are_compatible}

pub returns : goal.returns
returns c = leases_are_compatible

use Rattle.dso_legal.proofs.laws.holds_are_compatible.Goals as goal
use Rattle.dso_legal.proofs.leases.HoldsApart.{holds_are_compatible}

pub returns : goal.returns
returns c = holds_are_compatible

use Rattle.dso_legal.proofs.laws.holds_are_within_leases.Goals as goal
use Rattle.dso_legal.proofs.leases.Holds.{holds_are_within_leases}

pub returns : goal.returns
returns c = holds_are_within_leases

use Rattle.dso_law.proofs.run_laws.leases.Goals as goal
use Rattle.dso_law.proofs.runs.Kept.{leases_are_kept}

pub returns : goal.returns
returns c = leases_are_kept

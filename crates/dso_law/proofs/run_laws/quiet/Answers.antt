use Rattle.dso_law.proofs.run_laws.quiet.Goals as goal
use Rattle.dso_law.proofs.runs.Quiet.{nothing_is_due}

pub returns : goal.returns
returns c = nothing_is_due

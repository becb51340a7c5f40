use Rattle.dso_law.proofs.core_laws.residents.Goals as goal
use Rattle.dso_law.proofs.core.Counts.{residents_are_counted}

pub returns : goal.returns
returns c = residents_are_counted

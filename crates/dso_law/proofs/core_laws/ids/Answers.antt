use Rattle.dso_law.proofs.core_laws.ids.Goals as goal
use Rattle.dso_law.proofs.core.Ids.{ids_are_ahead}

pub returns : goal.returns
returns c = ids_are_ahead

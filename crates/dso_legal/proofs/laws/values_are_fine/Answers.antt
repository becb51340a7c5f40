use Rattle.dso_legal.proofs.laws.values_are_fine.Goals as goal
use Rattle.dso_legal.proofs.fitting.Values.{values_are_fine}

pub returns : goal.returns
returns c = values_are_fine

use Rattle.dso_legal.proofs.laws.values_fit.Goals as goal
use Rattle.dso_legal.proofs.fitting.ValuesFit.{values_fit}

pub returns : goal.returns
returns c = values_fit

use Rattle.dso_legal.proofs.laws.batches_fit.Goals as goal
use Rattle.dso_legal.proofs.ids.Batches.{batches_fit}

pub returns : goal.returns
returns c = batches_fit

use Rattle.dso_legal.proofs.laws.ids_are_of_batches.Goals as goal
use Rattle.dso_legal.proofs.ids.OfBatches.{ids_are_of_batches}

pub returns : goal.returns
returns c = ids_are_of_batches

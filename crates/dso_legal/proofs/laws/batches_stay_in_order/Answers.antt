use Rattle.dso_legal.proofs.laws.batches_stay_in_order.Goals as goal
use Rattle.dso_legal.proofs.ids.Batches.{batches_stay_in_order}

pub returns : goal.returns
returns c = batches_stay_in_order

use Rattle.dso_legal.proofs.laws.records_stay_in_order.Goals as goal
use Rattle.dso_legal.proofs.records.Numbered.{records_stay_in_order}

pub returns : goal.returns
returns c = records_stay_in_order

use Rattle.dso_legal.proofs.laws.records_fit.Goals as goal
use Rattle.dso_legal.proofs.records.Numbered.{records_fit}

pub returns : goal.returns
returns c = records_fit

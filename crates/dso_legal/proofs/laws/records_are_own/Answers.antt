use Rattle.dso_legal.proofs.laws.records_are_own.Goals as goal
use Rattle.dso_legal.proofs.fitting.RecordsOwn.{records_are_own}

pub returns : goal.returns
returns c = records_are_own

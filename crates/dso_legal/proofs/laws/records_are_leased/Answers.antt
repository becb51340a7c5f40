use Rattle.dso_legal.proofs.laws.records_are_leased.Goals as goal
use Rattle.dso_legal.proofs.fitting.RecordsLeased.{records_are_leased}

pub returns : goal.returns
returns c = records_are_leased

use Rattle.dso_legal.proofs.laws.records_are_sorted.Goals as goal
use Rattle.dso_legal.proofs.records.Sorted.{records_are_sorted}

pub returns : goal.returns
returns c = records_are_sorted

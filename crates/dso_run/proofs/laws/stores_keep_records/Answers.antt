use Rattle.dso_run.proofs.storing.KeptRecords.{records_are_kept}
use Rattle.dso_run.proofs.laws.stores_keep_records.Goals as goal

pub returns : goal.returns
returns c = records_are_kept

use Rattle.dso_kept.proofs.keeping.Applied.{applied_records_fit}
use Rattle.dso_kept.proofs.keep_laws.applied_records_fit.Goals as goal

pub returns : goal.returns
returns c = applied_records_fit

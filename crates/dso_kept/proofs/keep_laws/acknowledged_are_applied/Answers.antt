use Rattle.dso_kept.proofs.keeping.Acknowledged.{acknowledged_are_applied}
use Rattle.dso_kept.proofs.keep_laws.acknowledged_are_applied.Goals as goal

pub returns : goal.returns
returns c = acknowledged_are_applied

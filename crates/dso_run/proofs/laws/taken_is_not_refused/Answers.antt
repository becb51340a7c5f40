use Rattle.dso_run.proofs.Completing.{taken_not_refused}
use Rattle.dso_run.proofs.laws.taken_is_not_refused.Goals as goal

pub returns : goal.returns
returns c = taken_not_refused

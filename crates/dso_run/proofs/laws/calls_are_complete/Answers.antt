use Rattle.dso_run.proofs.Completing.{completeness}
use Rattle.dso_run.proofs.laws.calls_are_complete.Goals as goal

pub returns : goal.returns
returns c = completeness

use Rattle.dso_run.proofs.Finishing.{finished_means}
use Rattle.dso_run.proofs.laws.finished_means.Goals as goal

pub returns : goal.returns
returns c = finished_means

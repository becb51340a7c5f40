use Rattle.dso_law.proofs.laws.work.Goals as goal
use Rattle.dso_law.proofs.client.WorkByEntry.{work_goes_on}

pub returns : goal.returns
returns c = work_goes_on

use Rattle.dso_law.proofs.run_laws.apart.Goals as goal
use Rattle.dso_law.proofs.runs.Apart.{asked_is_absent}

pub returns : goal.returns
returns c = asked_is_absent

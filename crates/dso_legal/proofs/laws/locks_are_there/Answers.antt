use Rattle.dso_legal.proofs.laws.locks_are_there.Goals as goal
use Rattle.dso_legal.proofs.fitting.LocksThere.{locks_are_there}

pub returns : goal.returns
returns c = locks_are_there

use Rattle.dso_legal.proofs.examples.near_misses.Goals as goal
use Rattle.dso_legal.proofs.journals.NearMisses.{near_misses}

pub returns : goal.returns
returns c = near_misses

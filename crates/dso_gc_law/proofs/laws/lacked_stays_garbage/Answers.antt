use Rattle.dso_gc_law.proofs.laws.lacked_stays_garbage.Goals as goal
use Rattle.dso_gc_law.proofs.garbage.Lacking.{lacked_stays_garbage}

pub returns : goal.returns
returns c = lacked_stays_garbage

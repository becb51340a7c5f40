use Rattle.dso_gc_law.proofs.laws.swept_is_clean.Goals as goal
use Rattle.dso_gc_law.proofs.garbage.Sweeping.{swept_is_clean}

pub returns : goal.returns
returns c = swept_is_clean

use Rattle.dso_gc_law.proofs.laws.garbage_is_found.Goals as goal
use Rattle.dso_gc_law.proofs.garbage.Sweeping.{garbage_is_found}

pub returns : goal.returns
returns c = garbage_is_found

use Rattle.dso_gc_law.proofs.laws.garbage_stays.Goals as goal
use Rattle.dso_gc_law.proofs.garbage.Laws.{garbage_stays}

pub returns : goal.returns
returns c = garbage_stays

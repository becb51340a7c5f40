use Rattle.dso_gc_law.proofs.laws.swept_are_unnamed.Goals as goal
use Rattle.dso_gc_law.proofs.garbage.Laws.{swept_are_unnamed}

pub returns : goal.returns
returns c = swept_are_unnamed

use Rattle.dso_gc_law.proofs.laws.named_are_there.Goals as goal
use Rattle.dso_gc_law.proofs.garbage.Lacking.{named_are_there}

pub returns : goal.returns
returns c = named_are_there

use Rattle.dso_world.proofs.journals.Breaks.{broken_is_never_due}
use Rattle.dso_world.proofs.laws.broken_is_never_due.Goals as goal

pub returns : goal.returns
returns c = broken_is_never_due

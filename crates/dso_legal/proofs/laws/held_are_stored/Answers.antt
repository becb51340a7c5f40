use Rattle.dso_legal.proofs.laws.held_are_stored.Goals as goal
use Rattle.dso_legal.proofs.fitting.RecordsOwn.{held_are_stored}

pub returns : goal.returns
returns c = held_are_stored

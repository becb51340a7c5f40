use Rattle.dso_legal.proofs.laws.lost_are_told_nothing.Goals as goal
use Rattle.dso_legal.proofs.fitting.LostClients.{lost_are_told_nothing}

pub returns : goal.returns
returns c = lost_are_told_nothing

use Rattle.dso_legal.proofs.laws.lost_are_unheard.Goals as goal
use Rattle.dso_legal.proofs.fitting.Unheard.{lost_are_unheard}

pub returns : goal.returns
returns c = lost_are_unheard

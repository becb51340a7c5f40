use Rattle.dso_legal.proofs.laws.replies_are_there.Goals as goal
use Rattle.dso_legal.proofs.fitting.RepliesThere.{replies_are_there}

pub returns : goal.returns
returns c = replies_are_there

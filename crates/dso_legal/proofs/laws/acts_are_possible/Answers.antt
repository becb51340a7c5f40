use Rattle.dso_legal.proofs.laws.acts_are_possible.Goals as goal
use Rattle.dso_legal.proofs.acts.Acts.{acts_are_possible}

pub returns : goal.returns
returns c = acts_are_possible

use Rattle.dso_plain.proofs.laws.kinds.Goals as goal
use Rattle.dso_plain.proofs.histories.RunKinds.{runs_are_choices}

pub returns : goal.returns
returns c = runs_are_choices

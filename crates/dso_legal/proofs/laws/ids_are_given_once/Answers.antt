use Rattle.dso_legal.proofs.laws.ids_are_given_once.Goals as goal
use Rattle.dso_legal.proofs.ids.GivenOnce.{ids_are_given_once}

pub returns : goal.returns
returns c = ids_are_given_once

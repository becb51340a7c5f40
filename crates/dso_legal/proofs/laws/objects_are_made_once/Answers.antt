use Rattle.dso_legal.proofs.laws.objects_are_made_once.Goals as goal
use Rattle.dso_legal.proofs.ids.MadeOnce.{objects_are_made_once}

pub returns : goal.returns
returns c = objects_are_made_once

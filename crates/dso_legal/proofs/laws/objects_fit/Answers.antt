use Rattle.dso_legal.proofs.laws.objects_fit.Goals as goal
use Rattle.dso_legal.proofs.objects.Residency.{objects_fit}

pub returns : goal.returns
returns c = objects_fit

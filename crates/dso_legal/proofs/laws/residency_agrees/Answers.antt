use Rattle.dso_legal.proofs.laws.residency_agrees.Goals as goal
use Rattle.dso_legal.proofs.objects.Residency.{residency_agrees}

pub returns : goal.returns
returns c = residency_agrees

use Rattle.dso_legal.proofs.laws.sets_are_resident.Goals as goal
use Rattle.dso_legal.proofs.objects.SetsResident.{sets_are_resident}

pub returns : goal.returns
returns c = sets_are_resident

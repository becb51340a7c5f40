use Rattle.dso_legal.proofs.laws.names_stay_known.Goals as goal
use Rattle.dso_legal.proofs.acts.Names.{names_stay_known}
use Rattle.dso_legal.proofs.objects.ObjectsMade.{objects_are_made}

pub returns-clause-known : goal.returns-clause-known
returns-clause-known c = names_stay_known

pub returns-clause-made : goal.returns-clause-made
returns-clause-made c = objects_are_made

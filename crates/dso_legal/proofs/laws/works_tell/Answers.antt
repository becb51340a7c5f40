use Rattle.dso_legal.proofs.laws.works_tell.Goals as goal
use Rattle.dso_legal.proofs.objects.WorksTell.{works_tell}

pub returns : goal.returns
returns c = works_tell

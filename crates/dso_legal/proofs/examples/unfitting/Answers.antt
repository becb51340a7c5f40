use Rattle.dso_legal.proofs.examples.unfitting.Goals as goal
use Rattle.dso_legal.proofs.journals.Unfitting.{unfitting}

pub returns : goal.returns
returns c = unfitting

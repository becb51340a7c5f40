use Rattle.dso_legal.proofs.examples.misfits.Goals as goal
use Rattle.dso_legal.proofs.journals.Misfits.{misfits}

pub returns : goal.returns
returns c = misfits

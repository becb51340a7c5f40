use Rattle.dso_legal.proofs.examples.wrong_sendings.Goals as goal
use Rattle.dso_legal.proofs.journals.Refused.{wrong_sendings}

pub returns : goal.returns
returns c = wrong_sendings

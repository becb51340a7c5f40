use Rattle.dso_legal.proofs.laws.messages_fit.Goals as goal
use Rattle.dso_legal.proofs.fitting.MessagesFit.{messages_fit}

pub returns : goal.returns
returns c = messages_fit

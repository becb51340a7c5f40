use Rattle.dso_legal.proofs.examples.refusals.Goals as goal
use Rattle.dso_legal.proofs.journals.Refused.{refusals}

pub returns : goal.returns
returns c = refusals

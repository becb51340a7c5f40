use Rattle.dso_legal.proofs.laws.waiters_are_tokens.Goals as goal
use Rattle.dso_legal.proofs.central.CentralLaw.{waiters_are_tokens}

pub returns : goal.returns
returns c = waiters_are_tokens

use Rattle.dso_legal.proofs.laws.leases_are_tokens.Goals as goal
use Rattle.dso_legal.proofs.leases.Tokens.{leases_are_tokens}

pub returns : goal.returns
returns c = leases_are_tokens

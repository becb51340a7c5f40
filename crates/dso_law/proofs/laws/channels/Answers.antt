use Rattle.dso_law.proofs.laws.channels.Goals as goal
use Rattle.dso_law.proofs.flight.Prefixes.{prefixes}

pub returns : goal.returns
returns c = prefixes

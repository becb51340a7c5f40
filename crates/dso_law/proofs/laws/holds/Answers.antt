use Rattle.dso_law.proofs.laws.holds.Goals as goal
use Rattle.dso_law.proofs.client.ClientLaws.{holds_after}

pub returns : goal.returns
returns c = holds_after

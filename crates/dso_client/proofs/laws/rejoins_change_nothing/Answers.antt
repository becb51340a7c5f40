use Rattle.dso_client.proofs.standing.Rejoined.{stands_rejoined}
use Rattle.dso_client.proofs.laws.rejoins_change_nothing.Goals as goal

pub returns : goal.returns
returns c = stands_rejoined

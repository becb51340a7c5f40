use Rattle.dso_law.proofs.laws.acts.Goals as goal
use Rattle.dso_law.proofs.client.ClientLaws.{acts_are_open}

pub returns : goal.returns
returns c = acts_are_open

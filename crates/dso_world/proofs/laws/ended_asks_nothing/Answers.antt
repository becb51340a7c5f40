use Rattle.dso_world.proofs.finished.Ended.{ended_asks_nothing}
use Rattle.dso_world.proofs.laws.ended_asks_nothing.Goals as goal

pub returns : goal.returns
returns c = ended_asks_nothing

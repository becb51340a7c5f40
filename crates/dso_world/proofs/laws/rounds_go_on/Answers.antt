use Rattle.dso_world.proofs.slots.Once.{rounds_go_on}
use Rattle.dso_world.proofs.laws.rounds_go_on.Goals as goal

pub returns : goal.returns
returns c = rounds_go_on

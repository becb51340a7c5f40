use Rattle.dso_world.proofs.slots.OthersStay.{others_stay}
use Rattle.dso_world.proofs.laws.others_stay.Goals as goal

pub returns : goal.returns
returns c = others_stay

use Rattle.dso_world.proofs.flags.Chosen.{places_are_chosen}
use Rattle.dso_world.proofs.laws.places_are_chosen.Goals as goal

pub returns : goal.returns
returns c = places_are_chosen

use Rattle.dso_world.proofs.links.Takes.{links_go_on}
use Rattle.dso_world.proofs.laws.links_go_on.Goals as goal

pub returns : goal.returns
returns g c = links_go_on

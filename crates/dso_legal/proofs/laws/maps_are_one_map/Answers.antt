use Rattle.dso_legal.proofs.maps.MapLaw.{maps_are_one_map}
use Rattle.dso_legal.proofs.laws.maps_are_one_map.Goals as goal

pub returns : goal.returns
returns c = maps_are_one_map

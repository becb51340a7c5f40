use Rattle.dso_map.proofs.OneContent.{holds_one}
use Rattle.dso_map.proofs.laws.sound_maps_hold_one.Goals as goal

pub returns : goal.returns
returns c = holds_one

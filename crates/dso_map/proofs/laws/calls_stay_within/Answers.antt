use Rattle.dso_map.proofs.Within.{talk_within}
use Rattle.dso_map.proofs.laws.calls_stay_within.Goals as goal

pub returns : goal.returns
returns c = talk_within

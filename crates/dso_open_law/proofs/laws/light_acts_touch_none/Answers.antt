use Rattle.dso_open_law.proofs.laws.light_acts_touch_none.Goals as goal
use Rattle.dso_open_law.proofs.little.LittleTouched.{light_acts_touch_none}

pub returns : goal.returns
returns c = light_acts_touch_none

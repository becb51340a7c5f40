use Rattle.dso_open_law.proofs.laws.acts_touch_what_they_do.Goals as goal
use Rattle.dso_open_law.proofs.little.LittleTouched.{acts_touch_what_they_do}

pub returns : goal.returns
returns c = acts_touch_what_they_do

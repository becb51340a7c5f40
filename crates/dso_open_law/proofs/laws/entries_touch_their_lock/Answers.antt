use Rattle.dso_open_law.proofs.laws.entries_touch_their_lock.Goals as goal
use Rattle.dso_open_law.proofs.little.LittleTouched.{entries_touch_their_lock}

pub returns : goal.returns
returns c = entries_touch_their_lock

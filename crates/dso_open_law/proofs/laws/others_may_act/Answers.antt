use Rattle.dso_open_law.proofs.laws.others_may_act.Goals as goal
use Rattle.dso_open_law.proofs.threads.Acting.{others_may_act}

pub returns : goal.returns
returns c = others_may_act

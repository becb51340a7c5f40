use Rattle.dso_open_law.proofs.laws.few_act_otherwise.Goals as goal
use Rattle.dso_open_law.proofs.sound.FewTouched.{few_act_otherwise}

pub returns : goal.returns
returns c = few_act_otherwise

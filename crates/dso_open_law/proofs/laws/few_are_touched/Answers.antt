use Rattle.dso_open_law.proofs.laws.few_are_touched.Goals as goal
use Rattle.dso_open_law.proofs.sound.FewTouched.{few_are_touched}

pub returns : goal.returns
returns c = few_are_touched

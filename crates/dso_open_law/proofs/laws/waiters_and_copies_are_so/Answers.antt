use Rattle.dso_open_law.proofs.laws.waiters_and_copies_are_so.Goals as goal
use Rattle.dso_open_law.proofs.sound.FewTouched.{waiters_and_copies_are_so}

pub returns : goal.returns
returns c = waiters_and_copies_are_so

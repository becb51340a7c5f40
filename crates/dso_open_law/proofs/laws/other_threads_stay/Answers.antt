use Rattle.dso_open_law.proofs.laws.other_threads_stay.Goals as goal
use Rattle.dso_open_law.proofs.threads.Journals.{other_threads_stay}

pub returns : goal.returns
returns c = other_threads_stay

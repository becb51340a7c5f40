use Rattle.dso_report.proofs.histories.WholeState.{whole}
use Rattle.dso_report.proofs.laws.states_are_whole.Goals as goal

pub returns : goal.returns
returns c = whole

use Rattle.dso_plain.proofs.laws.monitors.Goals as goal
use Rattle.dso_plain.proofs.invariants.MonitorsHold.{monitors}

pub returns : goal.returns
returns c = monitors

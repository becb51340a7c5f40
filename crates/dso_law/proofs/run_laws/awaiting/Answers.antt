use Rattle.dso_law.proofs.run_laws.awaiting.Goals as goal
use Rattle.dso_law.proofs.runs.Awaiting.{who_awaits_stays, who_awaits_goes_on}

pub returns-clause-stays : goal.returns-clause-stays
returns-clause-stays c = who_awaits_stays

pub returns-clause-goes_on : goal.returns-clause-goes_on
returns-clause-goes_on c = who_awaits_goes_on

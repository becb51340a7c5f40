use Rattle.dso_server.proofs.standing.ByRule.{breaks_change_nothing, lost_change_nothing, rejoins_change_nothing}
use Rattle.dso_server.proofs.laws.others_change_nothing.Goals as goal

pub returns-clause-breaks : goal.returns-clause-breaks
returns-clause-breaks c = breaks_change_nothing

pub returns-clause-rejoins : goal.returns-clause-rejoins
returns-clause-rejoins c = rejoins_change_nothing

pub returns-clause-lost : goal.returns-clause-lost
returns-clause-lost c = lost_change_nothing

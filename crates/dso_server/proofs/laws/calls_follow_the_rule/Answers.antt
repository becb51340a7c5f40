use Rattle.dso_server.proofs.standing.ByRule.{lost_by_rule, taken_by_rule}
use Rattle.dso_server.proofs.laws.calls_follow_the_rule.Goals as goal

pub returns-clause-taken : goal.returns-clause-taken
returns-clause-taken c = taken_by_rule

pub returns-clause-lost : goal.returns-clause-lost
returns-clause-lost c = lost_by_rule

use Rattle.dso_plain.proofs.laws.publishing.Goals as goal
use Rattle.dso_plain.proofs.publishing.PublishedIsReached.{published_is_reached}
use Rattle.dso_lookup.proofs.Reaching.{reach_tells}

pub returns-clause-reach : goal.returns-clause-reach
returns-clause-reach c = reach_tells

pub returns-clause-published : goal.returns-clause-published
returns-clause-published c = published_is_reached

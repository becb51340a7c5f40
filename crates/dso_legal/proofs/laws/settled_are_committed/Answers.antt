use Rattle.dso_legal.proofs.laws.settled_are_committed.Goals as goal
use Rattle.dso_legal.proofs.blocks.Settled.{settled_are_committed}

pub returns : goal.returns
returns c = settled_are_committed

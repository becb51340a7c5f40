use Rattle.dso_legal.proofs.run_laws.hands.Goals as goal
use Rattle.dso_legal.proofs.runs.HandsInRuns.{hands_are_once}

pub returns : goal.returns
returns c = hands_are_once

use Rattle.dso_plain.proofs.laws.past.Goals as goal
use Rattle.dso_plain.proofs.invariants.PastsHold.{past, pasts_grow}

pub returns-clause-reached : goal.returns-clause-reached
returns-clause-reached c = past

pub returns-clause-grows : goal.returns-clause-grows
returns-clause-grows c = pasts_grow

use Rattle.dso_law.proofs.core_laws.bodies.Goals as goal
use Rattle.dso_law.proofs.core.Bodies.{bodies_are_held}

pub returns : goal.returns
returns c = bodies_are_held

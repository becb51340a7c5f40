use Rattle.dso_session.proofs.laws.given_up_once.Goals as goal
use Rattle.dso_session.proofs.GivenUp.{given_up_once}

pub returns : goal.returns
returns g c = given_up_once

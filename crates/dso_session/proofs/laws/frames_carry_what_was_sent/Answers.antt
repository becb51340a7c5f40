use Rattle.dso_session.proofs.laws.frames_carry_what_was_sent.Goals as goal
use Rattle.dso_session.proofs.Sent.{keeps_sent}

pub returns : goal.returns
returns g c = keeps_sent

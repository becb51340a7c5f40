use Rattle.dso_server.proofs.standing.Lacking.{named_is_known, nothing_is_lacked_later}
use Rattle.dso_server.proofs.laws.nothing_is_lacked.Goals as goal

pub returns-clause-known : goal.returns-clause-known
returns-clause-known c = named_is_known

pub returns-clause-later : goal.returns-clause-later
returns-clause-later c = nothing_is_lacked_later

use Rattle.dso_legal.proofs.laws.central_law.Goals as goal
use Rattle.dso_legal.proofs.central.CentralLaw.{central_law, commits_what_was_made}

pub returns-clause-legal : goal.returns-clause-legal
returns-clause-legal c = central_law

pub returns-clause-as_made : goal.returns-clause-as_made
returns-clause-as_made c = commits_what_was_made

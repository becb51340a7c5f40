use Rattle.dso_client.proofs.turn.other_turn.Goals as goal

pub returns-in-Some-clause-listed : goal.returns-in-Some-clause-listed
returns-in-Some-clause-listed c = λ other. c.lacking_turn.ensures.listed c.args.request

use Rattle.dso_base.specs.declared.request.Request.TheVariants.{New}
use Rattle.dso_client.proofs.turn.new_turn.Goals as goal

pub returns-in-None-clause-listed : goal.returns-in-None-clause-listed
returns-in-None-clause-listed c = λ class n. c.lacking_turn.ensures.listed (New class n)

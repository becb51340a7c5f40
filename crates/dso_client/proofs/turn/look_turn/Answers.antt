use Rattle.dso_base.specs.declared.request.Request.TheVariants.{Look}
use Rattle.dso_client.proofs.turn.look_turn.Goals as goal

pub returns-in-None-clause-listed : goal.returns-in-None-clause-listed
returns-in-None-clause-listed c = c.lacking_turn.ensures.listed (Look c.args.object)

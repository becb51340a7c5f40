use Rattle.dso_base.specs.declared.request.Request.TheVariants.{Get}
use Rattle.dso_client.proofs.turn.get_turn.Goals as goal

pub returns-in-Some-clause-listed : goal.returns-in-Some-clause-listed
returns-in-Some-clause-listed c = c.lacking_turn.ensures.listed (Get c.args.object c.args.field)

use Rattle.dso_base.specs.declared.request.Request.TheVariants.{Put}
use Rattle.dso_client.proofs.turn.put_turn.Goals as goal

pub returns-in-Some-clause-listed : goal.returns-in-Some-clause-listed
returns-in-Some-clause-listed c = λ v. c.lacking_turn.ensures.listed (Put c.args.object c.args.field v)

use Rattle.dso_client.proofs.reply.put_reply.Goals as goal

pub returns-then-field-size-clause-listed : goal.returns-then-field-size-clause-listed
returns-then-field-size-clause-listed c = λ v. c.put_answer.ensures.listed c.args.object c.args.field v

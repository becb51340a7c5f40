use Rattle.dso_client.proofs.unmet_need.first_unmet_need.Goals as goal

pub returns-in-New : goal.returns-in-New
returns-in-New c = λ at stands context. rw c.in-New.is (c.new_unmet_need.ensures at c.args.context.now.id stands.sequences)

use Rattle.dso_client.proofs.heard.Changes.{change_heard}
use Rattle.dso_client.proofs.message_effect.hear_change.Goals as goal

pub returns : goal.returns
returns c = λ clock at h. change_heard clock at c.args.set c.args.table.now c.set.new.self h c.set.result c.set.ensures.found c.set.ensures.written c.set.ensures.unchanged

use Rattle.dso_client.proofs.heard.Acks.{acked_heard}
use Rattle.dso_client.proofs.message_effect.hear_acked.Goals as goal

pub returns : goal.returns
returns c = λ clock at h sent. acked_heard clock c.args.seq at c.args.table.now c.acked.new.self h sent c.acked.ensures

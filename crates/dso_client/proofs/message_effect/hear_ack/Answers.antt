use Rattle.std.proofs.Common.{refl}
use Rattle.dso_client.proofs.heard.Acks.{ack_heard}
use Rattle.dso_client.proofs.message_effect.hear_ack.Goals as goal

pub returns-clause-heard : goal.returns-clause-heard
returns-clause-heard c = λ clock at h facts fits. ack_heard clock c.args.seq at c.args.sequences.now (record c.args.sequences.now { unacked = c.ack.new.self }) h facts fits c.ack.result c.ack.ensures.least c.ack.ensures.gone refl

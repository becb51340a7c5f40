use Rattle.dso_client.proofs.heard.Locks.{without_list}
use Rattle.dso_client.proofs.act_effect.empty_list.Goals as goal

pub returns : goal.returns
returns c = λ x. without_list c.args.lock c.args.lists.now c.take.new.map c.take.ensures.gone x

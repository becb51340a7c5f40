use Rattle.dso_ids.proofs.Taking.{in_turn}
use Rattle.dso_ids.proofs.laws.each_id_once.Goals as goal

pub returns-clause-pool : goal.returns-clause-pool
returns-clause-pool c = in_turn

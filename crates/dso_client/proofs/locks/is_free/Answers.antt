use Rattle.dso_client.proofs.lock_standing.FreeLocks.{free_as}
use Rattle.dso_client.proofs.locks.is_free.Goals as goal

pub returns : goal.returns
returns c = λ at stands own. free_as at c.args.lock_state.now.holds stands.holds own c.args.lock c.free.result c.free.ensures

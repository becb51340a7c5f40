use Rattle.std.proofs.Common.{None}
use Rattle.dso_store.proofs.HoldersWritten.{one_holder}
use Rattle.dso_store.proofs.holders.drop_holder.Goals as goal

pub returns : goal.returns
returns c = one_holder c.args.holders.now c.remove_in.new.rows c.args.client c.args.object None c.remove_in.ensures

use Rattle.std.proofs.Common.{Some}
use Rattle.std.proofs.lemmas.Result.{on_ok_weaker}
use Rattle.dso_store.proofs.HoldersWritten.{one_holder}
use Rattle.dso_store.proofs.holders.add_holder.Goals as goal

pub returns : goal.returns
returns c = on_ok_weaker c.insert_in.result (λ put. one_holder c.args.holders.now c.insert_in.new.rows c.args.client c.args.object (Some tt) put) c.insert_in.ensures.ok

use Rattle.dso_store.proofs.HoldersWritten.{no_holder}
use Rattle.dso_store.proofs.holders.drop_client.Goals as goal

pub returns : goal.returns
returns c = no_holder c.args.holders.now c.take.new.map c.args.client c.take.ensures.gone

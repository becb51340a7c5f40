use Rattle.std.proofs.lemmas.Result.{IfOk-weaker}
use Rattle.dso_txn.proofs.open_block.OpenBlock.close.Goals as goal

pub returns-clause-record : goal.returns-clause-record
returns-clause-record c = IfOk-weaker c.close.result _ _ (λ txn closed own work. closed own.bodies work) c.close.ensures.record

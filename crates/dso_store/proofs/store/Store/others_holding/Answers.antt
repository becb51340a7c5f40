use Rattle.std.proofs.Common.{◌∙◌}
use Rattle.std.proofs.lemmas.Result.{IfOk-weaker}
use Rattle.dso_store.proofs.Others.{told_others}
use Rattle.dso_store.proofs.store.Store.others_holding.Goals as goal

pub returns : goal.returns
returns c = IfOk-weaker c.changes_of.result _ _ (λ changes all p within. all ∙ told_others p c.args.client c.args.txn.now c.args.self.now.holders c.changes_of.ensures.ordered within) c.changes_of.ensures.all

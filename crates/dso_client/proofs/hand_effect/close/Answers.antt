use Rattle.std.proofs.Common.{ap}
use Rattle.dso_base.specs.declared.record.Txn.{Txn}
use Rattle.dso_client.proofs.worked.Hands.{hand_left}
use Rattle.dso_client.proofs.hand_effect.close.Goals as goal

pub returns-in_err-txn-clause-left : goal.returns-in_err-txn-clause-left
returns-in_err-txn-clause-left c = λ work same. hand_left c.args.context.now.privates c.args.context.now.block c.close.new.self work same c.close.ensures.empty

pub returns-clause-closed : goal.returns-clause-closed
returns-clause-closed c = λ work once same. ap (λ (txn : Txn). record txn { thread = c.args.context.now.id }) (c.in_ok-txn.ensures.record c.args.context.now.privates work once same)

pub returns-clause-left : goal.returns-clause-left
returns-clause-left c = λ work same. hand_left c.args.context.now.privates c.args.context.now.block c.close.new.self work same c.close.ensures.empty

use Rattle.std.proofs.lemmas.Result.{on_ok_weaker}
use Rattle.dso_base.specs.Block.{put_shared}
use Rattle.dso_change.proofs.OnceInHand.{once_put_shared}
use Rattle.dso_change.proofs.draft.put.Goals as goal

pub returns : goal.returns
returns c = on_ok_weaker c.publish.result (λ publishes work once same. publishes (put_shared c.args.set.object c.args.set.field c.args.set.value work) (once_put_shared c.args.set.object c.args.set.field c.args.set.value work once) (c.in_ok-put_shared.ensures c.args.privates.now work same)) c.publish.ensures

use Rattle.std.proofs.Common.{◌≡◌, ℕ, None}
use Rattle.dso_base.specs.declared.message.Down.TheVariants as down
use Rattle.dso_table.specs.States.{put}
use Rattle.dso_table.specs.ObjectTables.{state_in}
use Rattle.dso_client.specs.MessageEffects.{heard}
use Rattle.dso_client.specs.RunPoints.{RunPoint}
use Rattle.dso_client.specs.TableStands.{TableStands}
use Rattle.dso_client.proofs.replies.Outcomes.{on_ok}
use Rattle.dso_client.proofs.heard.Objects.{object_heard}
use Rattle.dso_client.proofs.message_effect.hear_object.Goals as goal

pub returns : goal.returns
returns c =
    let old = c.args.table.now in
    let new = c.put_object.new.self in
    on_ok c.put_object.result (state_in new ≡ put c.args.body.now None (state_in old))
    ((clock : ℕ) (at : RunPoint) → TableStands at old → TableStands (heard clock (down.Object c.args.body.now) at) new)
    (λ is. λ clock at h. object_heard clock at c.args.body.now old new h is) c.put_object.ensures.ok
